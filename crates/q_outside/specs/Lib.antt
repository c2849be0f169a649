-- Transports, readers and writers whose failures are counted, and files by name.
pub mod Counts
pub mod Faults
pub mod Peers
pub mod Files
pub mod Memory
pub mod Pieces
