pub mod Rests
pub mod Powers
