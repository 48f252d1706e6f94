pub mod CutLemmas
pub mod RowLemmas
pub mod TakeLemmas
