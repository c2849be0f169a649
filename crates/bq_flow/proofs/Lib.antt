pub mod Units
pub mod Legal
pub mod Best
pub mod Words
