pub mod EnoughLemmas
pub mod OpeningLemmas
pub mod ShownLemmas
