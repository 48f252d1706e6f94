pub mod BlockLemmas
pub mod ComingLemmas
pub mod GrowingLemmas
pub mod RunLemmas
pub mod StretchLemmas
