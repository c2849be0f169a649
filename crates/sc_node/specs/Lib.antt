-- What a node does.
pub use Rattle.sc_operations.specs.Sessions
pub mod State
pub mod Nodes
pub mod Lengths
