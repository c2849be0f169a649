-- Nodes in threads, and their scripts: lemmas.
mod Counts
mod Turns
mod Nodes
mod Filing
mod Finding
mod Gathering
mod Truth
mod Endings
mod Untold
mod NoNode
