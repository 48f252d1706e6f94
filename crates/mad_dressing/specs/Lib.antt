pub mod DressLaws
pub mod Dressed
pub mod PictureSigns
pub mod WordFlags
pub mod WordMarks
