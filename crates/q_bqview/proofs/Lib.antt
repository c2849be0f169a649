-- Proofs of what the program does.
mod As
mod Given
