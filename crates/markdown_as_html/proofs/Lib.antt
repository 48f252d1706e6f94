pub mod Computing
pub mod LabelLemmas
pub mod CodeLemmas
