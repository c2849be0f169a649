pub mod Line
pub mod Meetings
pub mod Printing
pub mod Programs
pub mod Refusal
