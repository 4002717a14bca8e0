pub mod Begun
pub mod Views
