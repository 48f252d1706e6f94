pub mod StartLemmas
pub mod ValueLemmas
