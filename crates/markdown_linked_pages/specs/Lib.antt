pub mod CellLaws
pub mod CellMarks
pub mod ColumnsKept
pub mod LinkedPageLaws
pub mod LinkedPageRows
pub mod LinkedPages
pub mod LinkedRowLaws
pub mod MarkLaws
