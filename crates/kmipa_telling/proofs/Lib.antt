mod ClaimLemmas
pub mod ExplainedJsonLemmas
mod ExplainedLemmas
pub mod ExplainingLemmas
mod HeldLemmas
pub mod JsonLemmas
pub mod JudgingLemmas
pub mod ListLemmas
mod PhraseLemmas
pub mod SealLemmas
mod StoryLemmas
mod TellingLemmas
