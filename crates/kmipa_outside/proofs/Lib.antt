mod AgreementLemmas
pub mod DemandLemmas
pub mod FailLemmas
pub mod NumberLemmas
pub mod ReasonLemmas
pub mod FindLemmas
pub mod ToldLemmas
pub mod HeaderLemmas
pub mod AskLemmas
pub mod MarkLemmas
pub mod StampLemmas
pub mod AnswerLemmas
