-- Lemmas on sets of ids and on facts.
pub mod Sets
pub mod FactsLemmas
