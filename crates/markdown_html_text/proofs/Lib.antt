pub mod EndLemmas
pub mod LeafLemmas
pub mod PieceLemmas
