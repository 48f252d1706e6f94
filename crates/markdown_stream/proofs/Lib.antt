pub mod ReadingLemmas
pub mod MappingLemmas
pub mod StreamingLemmas
pub mod KnownLemmas
pub mod RowLemmas
pub mod HeldLemmas
pub mod EarlyLemmas
pub mod GatheredLemmas
pub mod ComeLemmas
pub mod StreamLemmas
pub mod PieceLemmas
pub mod SourceLemmas
pub mod OpenLemmas
mod ProvisionalLemmas
