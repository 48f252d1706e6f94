pub mod Cursor
pub mod Tones
