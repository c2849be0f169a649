-- That the longest beginning of a journal is the longest, and that bytes with a fault have none.
mod Cutting
mod Outcomes
pub mod Splitting
pub mod Testing
