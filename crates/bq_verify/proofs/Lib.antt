pub mod Forward
pub mod Joins
pub mod Arrivals
pub mod Passing
pub mod Filling
mod Notes
mod Least
mod Fitting
