pub mod Laws
pub mod PlainTexts
pub mod StyledRows
pub mod Taking
