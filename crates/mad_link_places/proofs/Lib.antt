pub mod NumberLemmas
mod PlaceLemmas
mod StandLemmas
