pub mod BreakLemmas
pub mod FoundLemmas
pub mod LawLemmas
pub mod LetterLemmas
pub mod ReadingLemmas
pub mod SearchLemmas
