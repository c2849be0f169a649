-- What the lock of a node that runs apart keeps, and what it gives to be sent; what a recorder does with the journal of
-- a book.
pub mod State
pub mod Recording
pub mod Faults
pub mod Letters
pub mod Questions
pub mod Giving
pub mod Settling
pub mod Sample
