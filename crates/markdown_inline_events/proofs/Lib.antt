pub mod AroundLemmas
pub mod LeafLemmas
pub mod ListLemmas
pub mod NestLemmas
pub mod ReadLemmas
pub mod RiseLemmas
pub mod ShownLemmas
