pub mod Spans
pub mod Covering
pub mod Keeps
mod Each
pub mod Counts
pub mod Plain
pub mod Ways
mod BothWays
pub mod Monotone
