pub mod FenceLemmas
pub mod LineLemmas
pub mod PrintedLemmas
