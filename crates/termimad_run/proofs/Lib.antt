pub mod AnswerLemmas
pub mod Notices
pub mod RunSteps
pub mod SkinWords
pub mod Sources
pub mod Writings
