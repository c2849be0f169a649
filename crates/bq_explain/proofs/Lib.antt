-- Texts that are written in parts.
mod Writing
mod OnLiterals
