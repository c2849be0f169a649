-- Nodes in threads: how long a file is, and why no line is told. Their scripts: what the calls of the lines come to,
-- and what the lines tell of one cluster.
pub mod Files
pub mod Faults
pub mod Books
pub mod Scripts
pub mod Lines
pub mod Runs
pub mod Found
pub mod Headline
pub mod Halts
