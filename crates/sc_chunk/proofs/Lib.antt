-- Lemmas on entries.
pub mod EntryLemmas
