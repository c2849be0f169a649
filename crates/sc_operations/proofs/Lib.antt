-- Lemmas on tables of operations.
pub mod Tables
