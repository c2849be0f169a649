-- The lines of messages and of pairs, and why there is no certificate.
mod Lines
mod Pairing
mod Uncertified
