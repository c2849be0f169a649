-- The one table of reasons.
pub mod Table
