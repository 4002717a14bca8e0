pub mod Begun
pub mod Called
pub mod Making
pub mod Views
