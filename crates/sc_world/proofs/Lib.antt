-- Every list of events leads to a regular world.
pub mod Finite
pub mod Changes
pub mod Soundness
pub mod Links
pub mod Steps
pub mod Handlers
pub mod Truths
pub mod Truth
pub mod Telling
pub mod Numbers
pub mod Numbering
pub mod Inverts
pub mod Runs
pub mod Histories
pub mod Recording
pub mod Answering
pub mod Tallies
pub mod Ledgers
pub mod Ends
pub mod EndsTold
pub mod Senders
pub mod EveryHistory
pub mod Tables
pub mod Moving
pub mod Acting
pub mod Meetings
mod Overlaps
mod Meeting
