pub mod Contents
pub mod Spans
pub mod Lists
pub mod Shares
pub mod Reading
pub mod Leaf
pub mod Laws
