-- Messages, their bytes and the first fault of other bytes.
pub mod Values
pub mod Kinds
pub mod Entries
pub mod Fields
pub mod Messages
pub mod Lengths
pub mod Fault
