-- The records of a view, what a program over them comes to, queries and their jobs, and when an answer is right.
pub mod Right
pub mod Jobs
pub mod Done
pub mod Same
pub mod Records
pub mod Folds
