-- Sets of ids, what is known of a cluster's nodes, thresholds, and refusals.
pub mod Ids
pub mod Members
pub mod Faults
