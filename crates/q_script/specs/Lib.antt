pub mod Words
pub mod Lines
pub mod Line
pub mod Founding
pub mod Script
pub mod Records
pub mod NodeLine
pub mod File
