pub mod Levels
pub mod Wanting
