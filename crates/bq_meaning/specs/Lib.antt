pub mod Place
pub mod Memory
pub mod Meaning
pub mod Runs
pub mod Answers
pub mod Faults
pub mod Sample
