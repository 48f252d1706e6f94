pub mod AlertLemmas
