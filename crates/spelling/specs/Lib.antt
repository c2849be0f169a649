pub mod Natural
pub mod Numbers
pub mod Codes
