pub mod Bars
pub mod Borders
pub mod CompoundStyles
pub mod Kinds
pub mod LineStyles
pub mod OrderedItems
pub mod Repeats
pub mod StyledChars
