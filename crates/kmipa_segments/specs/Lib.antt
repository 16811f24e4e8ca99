pub mod Chaining
pub mod Chains
pub mod Comparing
pub mod Gaps
pub mod Leaving
pub mod Linking
pub mod Moments
pub mod SegmentSearches
