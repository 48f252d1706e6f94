pub mod LinkLemmas
pub mod NumberLemmas
pub mod RangeLemmas
pub mod SourceLemmas
