pub mod Below
pub mod Naming
