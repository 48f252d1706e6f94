pub mod Editor
pub mod Undo
pub mod Words
pub mod Examples
