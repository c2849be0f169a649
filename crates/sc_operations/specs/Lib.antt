-- What an operation is, and how it is moved.
pub mod Sessions
