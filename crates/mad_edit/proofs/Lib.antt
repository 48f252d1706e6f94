pub mod SplitLemmas
pub mod LineLemmas
pub mod EditorLemmas
pub mod TextLemmas
pub mod UndoLemmas
pub mod SwapLemmas
pub mod PushLemmas
pub mod CompareLemmas
