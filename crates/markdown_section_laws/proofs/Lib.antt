pub mod LeafLemmas
