pub mod CursorLemmas
pub mod JoinLemmas
pub mod WalkLemmas
