-- Proofs of a client.
mod Heard
mod Scripts
mod Moves
mod Beginnings
mod Looking
mod Running
mod Halting
