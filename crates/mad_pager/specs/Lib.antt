pub mod Following
pub mod Pagers
pub mod Pictures
pub mod Rooms
pub mod ScreenLaws
pub mod Screens
pub mod SearchLaws
pub mod Sessions
