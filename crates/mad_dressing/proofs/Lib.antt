pub mod DressLemmas
pub mod MarkLemmas
pub mod SignLemmas
