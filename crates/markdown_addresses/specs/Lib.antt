pub mod Addresses
pub mod Bare
