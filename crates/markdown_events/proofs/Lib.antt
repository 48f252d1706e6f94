pub mod LineLemmas
pub mod NestLemmas
pub mod PlaceLemmas
pub mod WalkLemmas
