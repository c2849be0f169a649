-- What a journal holds, and its bytes; the journal of a book, and which bytes are one.
pub mod Head
pub mod Spelling
pub mod Reading
pub mod Writing
pub mod Journal
pub mod Checked
pub mod Replayed
pub mod Taking
pub mod Faults
