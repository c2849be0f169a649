-- Desks: what queries ask for, what each call answers and does, and why answers are right.
pub mod State
pub mod Desks
pub mod Answers
pub mod Keeping
pub mod Sample
pub mod Queries
