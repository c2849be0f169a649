pub mod Powers
pub mod Storing
pub mod Reach
pub mod Once
pub mod Folding
pub mod Least
