-- What a start finds, and what it leaves.
pub mod Finding
pub mod Leaving
