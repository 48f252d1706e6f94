pub mod ReadRows
pub mod WordRows
