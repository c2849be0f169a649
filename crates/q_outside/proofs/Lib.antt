-- Proofs of counted readers and writers, of what is written piece by piece, and of files in memory.
pub mod Parts
pub mod Writing
mod Written
