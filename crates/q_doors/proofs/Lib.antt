-- Proofs of datagrams, and of what serving a client does.
pub mod Senders
pub mod Lost
pub mod Exchanged
pub mod Turns
pub mod Spelled
