-- The books of a cluster, and what its parts do at an event.
pub mod Acts
pub mod Codes
pub mod Founders
pub mod Lends
