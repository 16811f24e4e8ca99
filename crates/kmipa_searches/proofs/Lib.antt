mod DecidingLemmas
mod DeepestLemmas
mod GivingUpLemmas
mod JsonSearchLemmas
mod SealLemmas
pub mod SearchLemmas
