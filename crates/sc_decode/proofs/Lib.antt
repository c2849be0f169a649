-- Bytes behind a message.
pub mod Extra
