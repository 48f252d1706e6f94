pub mod Rows
pub mod Bytes
