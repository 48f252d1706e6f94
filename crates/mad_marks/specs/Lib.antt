pub mod LineMarks
pub mod RowMarks
pub mod RowNumbers
