pub mod DarkSkins
pub mod Inks
pub mod LightSkins
pub mod PageSkins
pub mod PlainSkins
pub mod SixteenSkins
