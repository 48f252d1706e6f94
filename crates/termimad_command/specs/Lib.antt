pub mod Calls
pub mod Notices
pub mod Refusals
pub mod Runs
pub mod Skins
pub mod Texts
pub mod Written
