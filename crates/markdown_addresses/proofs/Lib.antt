mod BareLemmas
pub mod NoneLemmas
