pub mod ColumnWidths
pub mod SeenCells
pub mod TableFits
pub mod Turns
pub mod WordWidths
pub mod WorkedWidths
