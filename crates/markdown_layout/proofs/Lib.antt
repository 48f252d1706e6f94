pub mod EndLemmas
mod LookLemmas
mod MarkLemmas
mod WideColumns
mod WrittenLemmas
pub mod CellLemmas
pub mod DrawnLemmas
pub mod KeptLemmas
pub mod NestedRowLemmas
pub mod ShownLemmas
