pub mod Breaks
pub mod Capitals
pub mod Readings
pub mod SearchLaws
pub mod Searches
