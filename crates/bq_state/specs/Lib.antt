-- What is known of a machine at a unit, and the rules of the checker.
pub mod Offsets
pub mod Kinds
pub mod Rules
pub mod Edges
pub mod InPlace
pub mod Onward
pub mod Covers
pub mod Listed
pub mod Reasons
pub mod Regions
pub mod Monotone
pub mod Plain
