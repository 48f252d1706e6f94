pub mod Blocks
pub mod Comings
pub mod Growing
pub mod Leavings
pub mod PlainSkins
pub mod Runs
pub mod Stretches
pub mod Wishes
