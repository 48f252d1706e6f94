pub mod CodeSource
pub mod Fences
