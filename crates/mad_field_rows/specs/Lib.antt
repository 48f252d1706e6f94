pub mod LineRows
pub mod Positions
pub mod RowChars
pub mod RowPieces
pub mod Scrolls
