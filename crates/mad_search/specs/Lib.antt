pub mod Headers
pub mod KeptRows
pub mod PagedTexts
