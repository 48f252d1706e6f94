pub mod GroupLemmas
pub mod PlainLemmas
