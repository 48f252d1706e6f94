pub mod Words
pub mod Phrases
pub mod Fronts
pub mod Tables
pub mod Pages
pub mod Writable
pub mod Reading
