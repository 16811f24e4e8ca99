mod CheckLemmas
mod ClientLemmas
mod FormLemmas
mod HeldLemmas
mod IndentLemmas
mod LineLemmas
mod NumberingLemmas
mod ObjectLemmas
mod PartLemmas
mod RuleLemmas
mod RunLemmas
mod StatusLemmas
mod UnexplainedLemmas
mod UnjudgedLemmas
pub mod PlainLemmas
pub mod FoundLemmas
