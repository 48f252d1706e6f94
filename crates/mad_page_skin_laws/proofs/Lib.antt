pub mod PageMarkLemmas
