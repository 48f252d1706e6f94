pub mod LayoutLemmas
pub mod NumberedLemmas
pub mod TableLemmas
pub mod TextLemmas
