pub mod PageKeys
pub mod PageLaws
pub mod Pages
