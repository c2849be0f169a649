-- The file of a node's journal as a start finds it, and the note of the machine's start beside it.
pub mod Notes
pub mod Found
pub mod Starts
pub mod Faults
