-- Clusters: what each event does, and what is true of every answer and every book.
pub mod Headline
pub mod Recorded
pub mod World
pub mod Heads
pub mod Clusters
pub mod Calls
pub mod Books
