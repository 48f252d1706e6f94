pub mod BackLemmas
pub mod LoopLemmas
pub mod WholeLemmas
