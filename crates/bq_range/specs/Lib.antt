-- Ranges of words, and what an instruction makes of them.
pub mod Interval
pub mod Table
pub mod Narrow
pub mod Monotone
