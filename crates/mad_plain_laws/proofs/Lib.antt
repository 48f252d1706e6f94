pub mod CodeLemmas
pub mod PageLemmas
