pub mod Lists
pub mod Lines
pub mod Decimal
pub mod Numbers
pub mod Codes
