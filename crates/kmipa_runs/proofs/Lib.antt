mod DateLemmas
mod FrontLemmas
mod InputLemmas
mod LawLemmas
mod PrintLemmas
mod ShownLemmas
pub mod AppendLemmas
pub mod KnowingLemmas
pub mod LineLemmas
pub mod YesLemmas
