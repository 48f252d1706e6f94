pub mod CountLemmas
pub mod PrintedLemmas
pub mod TargetLemmas
