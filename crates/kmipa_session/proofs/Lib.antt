mod ChainingLemmas
mod JudgingLemmas
mod SealingLemmas
mod SessionLemmas
