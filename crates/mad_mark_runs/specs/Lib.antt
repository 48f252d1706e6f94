pub mod Marks
pub mod Values
