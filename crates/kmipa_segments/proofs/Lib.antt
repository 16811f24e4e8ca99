mod ChainLemmas
pub mod ChainingLemmas
mod CompareLemmas
mod FaultLemmas
mod GapLemmas
mod LeavingLemmas
mod MomentLemmas
mod SegmentSearchLemmas
