pub mod CodeTexts
pub mod FencedTexts
