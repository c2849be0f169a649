-- Lemmas on facts, and why values keep their lengths.
pub mod Joining
pub mod Kept
