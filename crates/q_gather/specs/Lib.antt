-- Journals of nodes that ran apart and their beginnings, gathered into a cluster: what that is, what it answers, and
-- what it does on the way.
pub mod Merging
pub mod Traces
pub mod Turns
pub mod Gathered
pub mod Numbers
pub mod Beginnings
pub mod Faults
pub mod Gather
pub mod Heads
pub mod Gathering
