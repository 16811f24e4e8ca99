mod FirstLemmas
mod TestLemmas
mod ScanLemmas
mod NameLemmas
mod KnownLemmas
mod StepLemmas
mod DeedLaws
mod ConditionLemmas
mod LearnLemmas
pub mod AddLemmas
mod NewbornLemmas
mod GetLemmas
mod ChangeLemmas
mod ChangingLemmas
mod MeantLemmas
mod GetAttributesLemmas
mod LookLemmas
mod LocateLemmas
mod RowLemmas
pub mod SayableLemmas
mod LowestLemmas
mod FoundedLemmas
mod ItemLemmas
pub mod AscendLemmas
pub mod ExplainLemmas
mod ReasonLemmas
mod TakenLemmas
mod OneInventoryLemmas
pub mod AlikeLemmas
mod ListingLemmas
mod CandidateLemmas
pub mod AheadLemmas
