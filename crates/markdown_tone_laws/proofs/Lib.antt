pub mod CodeLemmas
pub mod ToneLemmas
pub mod FenceLemmas
