pub mod Applications
pub mod Passings
