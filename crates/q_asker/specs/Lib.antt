-- A client of a node: its scripts, its requests and their replies, and what a run sends, hears and prints.
pub mod Script
pub mod Makes
pub mod Replies
pub mod Faults
pub mod Exchanges
pub mod Steps
pub mod Runs
