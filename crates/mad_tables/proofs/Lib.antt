pub mod CellLemmas
pub mod CutLemmas
