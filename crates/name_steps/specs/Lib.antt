pub mod Applied
pub mod Came
pub mod Settings
