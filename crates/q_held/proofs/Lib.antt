-- Lemmas of what a node that comes back asks and offers.
pub mod Resuming
