pub mod Rows
pub mod RowStyles
