pub mod TextLines
pub mod LineColumns
pub mod CharClasses
pub mod PositionOrder
