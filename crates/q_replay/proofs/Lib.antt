-- How journals are spelled and read, which entry a written one is, why a journal is that of one book, and bytes have one fault.
pub mod Sizes
pub mod Fronts
pub mod Exits
pub mod Heads
pub mod Bodies
pub mod Events
pub mod Writes
mod Lists
mod Posting
pub mod Entries
pub mod Leading
mod Firsts
mod Calling
mod Writing
