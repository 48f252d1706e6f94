pub mod CharColumns
pub mod PictureLemmas
pub mod WideColumns
