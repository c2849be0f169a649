-- Entries in rising id order, and which number is newer.
pub mod Entries
