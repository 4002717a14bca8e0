pub mod Below
pub mod Calling
pub mod Selecting
