pub mod Guarding
pub mod Presence
