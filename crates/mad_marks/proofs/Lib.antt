pub mod MarkLemmas
pub mod NumberLemmas
