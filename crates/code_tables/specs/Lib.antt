pub mod Heads
pub mod Kinds
pub mod Rules
pub mod Tables
