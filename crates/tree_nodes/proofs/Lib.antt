pub mod Levels
pub mod Emptiness
