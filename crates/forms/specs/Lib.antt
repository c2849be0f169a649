-- What calls do, and what lists have.
pub mod Calls
pub mod Lists
