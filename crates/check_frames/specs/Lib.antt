pub mod Below
pub mod Meant
pub mod Steps
