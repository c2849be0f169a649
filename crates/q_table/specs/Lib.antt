-- The programs of a desk, and what refuses one more.
pub mod Programs
