-- Lemmas of this crate.
mod Waited
mod Among
mod Operations
mod Nodes
mod Calls
mod Firsts
mod Traces
