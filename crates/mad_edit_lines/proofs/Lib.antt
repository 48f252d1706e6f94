pub mod PositionLemmas
pub mod RowLemmas
pub mod TextLemmas
pub mod ColumnLemmas
