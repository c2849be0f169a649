pub mod Awaited
pub mod Delivered
pub mod Longer
pub mod Seen
pub mod Simulates
pub mod Truths
