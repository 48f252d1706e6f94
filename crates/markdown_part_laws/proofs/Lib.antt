pub mod BlankLemmas
pub mod LastLemmas
pub mod TextLemmas
pub mod ParagraphLemmas
pub mod MarkLemmas
