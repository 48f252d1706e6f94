mod EdgeLemmas
mod RunLemmas
pub mod RowLemmas
pub mod CellLemmas
pub mod ByteLemmas
