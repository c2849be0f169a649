-- What keeps a desk a desk, which results it records, and what each call makes of a desk.
pub mod Lists
mod Keeps
pub mod Views
mod Jobs
mod Phases
mod Running
pub mod Accepted
pub mod Changes
pub mod Own
mod NextJobs
