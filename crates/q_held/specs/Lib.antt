-- What is done under the lock of a node, and for whom a message is meant.
pub mod LiveNodes
pub mod Addressees
pub mod Resumed
