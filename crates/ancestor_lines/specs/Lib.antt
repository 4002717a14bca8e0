pub mod Clearing
pub mod Lines
pub mod Parts
