pub mod Deciding
pub mod Deepest
pub mod DeepestClaims
pub mod GivingUp
pub mod JsonSearches
pub mod Searches
