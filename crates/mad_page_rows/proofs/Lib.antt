pub mod BoxLemmas
pub mod BoxedLines
pub mod FaceLemmas
pub mod FillLemmas
pub mod FitLemmas
pub mod KnownFaces
pub mod TonedLemmas
