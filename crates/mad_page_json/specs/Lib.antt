pub mod Lookups
pub mod Named
pub mod PageReading
pub mod PageReadsBack
pub mod PageWriting
pub mod Parts
