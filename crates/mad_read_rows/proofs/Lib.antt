mod PutLemmas
pub mod ReadLemmas
pub mod WordRowLemmas
