pub mod AsideLemmas
pub mod TurnLemmas
pub mod FullLemmas
pub mod MarkLemmas
pub mod OrderLemmas
pub mod StepLemmas
pub mod TakableLemmas
pub mod AnswerLemmas
