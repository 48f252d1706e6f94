pub mod Fences
pub mod Items
pub mod Lines
pub mod Marks
pub mod Plain
pub mod Quotes
pub mod Whole
