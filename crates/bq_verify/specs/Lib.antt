-- The states that the verifier finds, what it refuses, and why both are the best.
pub mod States
pub mod Refused
pub mod Least
pub mod Table
