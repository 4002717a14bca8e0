pub mod Accepted
pub mod Decided
pub mod Steps
