pub mod Cells
pub mod DataTables
