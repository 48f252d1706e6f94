pub mod Calls
pub mod Ends
pub mod Runs
pub mod Skins
pub mod Streams
