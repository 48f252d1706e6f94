pub mod Interrupts
pub mod LastBlank
pub mod Paragraphs
