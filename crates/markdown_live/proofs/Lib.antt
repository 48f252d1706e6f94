pub mod PageRowLemmas
pub mod SignLemmas
pub mod ReadLemmas
pub mod LiveLemmas
pub mod LawLemmas
pub mod PieceLemmas
pub mod SourceLemmas
