-- Which notes pass for a text, what a step keeps, and what is then promised of the text.
pub mod Passes
pub mod Safe
pub mod Steps
