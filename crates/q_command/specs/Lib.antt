-- What the commands answer and why they are refused; the words that ask for them; what journals tell together.
pub mod Advice
pub mod Audit
pub mod GatheredLines
pub mod JournalFiles
pub mod Listing
pub mod Perform
pub mod Tells
pub mod Truth
pub mod Words
