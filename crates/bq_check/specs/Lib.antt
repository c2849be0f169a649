-- Which fault comes first, what a certificate holds, and how notes are spelt.
pub mod Faults
pub mod Reasons
pub mod Certificate
pub mod Certified
pub mod Codes
pub mod Spelling
