pub mod CutLemmas
pub mod ItemLemmas
pub mod UntouchedLemmas
pub mod SubjectLemmas
pub mod CallLemmas
pub mod RunLemmas
pub mod MakingLemmas
