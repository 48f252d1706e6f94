pub mod KnownLemmas
pub mod PieceLemmas
pub mod StyleLemmas
pub mod PlacedLemmas
