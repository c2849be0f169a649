-- Why a book stays the replay of its journal, why its values fit its version, and what its parts make of its calls.
mod Calls
mod Noted
pub mod Parts
pub mod Followed
pub mod Replays
pub mod Values
