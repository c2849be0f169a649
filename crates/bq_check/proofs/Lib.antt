pub mod Alike
pub mod Fields
pub mod Checked
pub mod Once
pub mod Read
pub mod Written
mod Seen
pub mod FirstForm
