pub mod MadViews
pub mod Scrolls
pub mod ViewKeys
pub mod Views
