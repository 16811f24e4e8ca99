pub mod NumberLemmas
pub mod LinkLemmas
