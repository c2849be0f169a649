-- Where control may go, legal flow, paths, and the first fault.
pub mod Successors
pub mod Paths
pub mod Faults
pub mod Flow
pub mod Table
