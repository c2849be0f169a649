pub mod Moves
pub mod AskerSteps
pub mod RunnerSteps
pub mod Opening
pub mod Accounting
pub mod Rows
pub mod AskerCalls
pub mod RunnerCalls
mod Rounds
pub mod Looks
mod Turning
mod Pumping
