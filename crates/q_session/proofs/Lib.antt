-- Folds over records; when two texts and two views are the same, and what a right answer of a job is then.
mod Texts
pub mod Views
mod Jobs
pub mod Records
pub mod Chunks
