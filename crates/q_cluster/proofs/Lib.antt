-- Tables of books, and what the parts of an event make together.
pub mod Histories
pub mod Calls
pub mod Posting
pub mod Going
pub mod Coming
pub mod Finishing
pub mod Founding
pub mod Tables
mod FoundBooks
