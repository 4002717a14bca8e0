pub mod Below
pub mod Meant
pub mod Parts
pub mod Steps
