-- Every history's answers are true, and stay, and its books are replays.
pub mod Lists
pub mod Ops
pub mod World
pub mod Accepted
pub mod Called
pub mod Kept
pub mod Founders
pub mod Events
pub mod EveryHistory
pub mod Histories
pub mod Booked
pub mod EveryBook
