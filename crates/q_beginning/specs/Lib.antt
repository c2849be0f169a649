-- The longest beginning of bytes that is a journal.
pub mod Beginning
