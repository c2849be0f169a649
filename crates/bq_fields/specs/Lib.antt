pub mod Uses
pub mod Reasons
