pub mod AttributeLemmas
pub mod ItemLemmas
pub mod ReadBars
pub mod ReadingBack
pub mod SkinLaw
