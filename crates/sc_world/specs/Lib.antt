-- Every history of a store-collect object, and its regularity.
pub mod State
pub mod Operations
pub mod Worlds
pub mod Records
pub mod Regular
pub mod Acts
pub mod Ledgers
pub mod Quorums
