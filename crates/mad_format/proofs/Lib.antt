pub mod ListLemmas
pub mod MeasureLemmas
pub mod PlainLemmas
pub mod ReadLemmas
pub mod ReadWraps
pub mod WrapLemmas
