pub mod Columns
pub mod Pictures
pub mod Wide
