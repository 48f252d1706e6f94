pub mod Marks
pub mod Hearing
pub mod Laws
