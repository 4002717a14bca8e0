pub mod Behind
pub mod Below
pub mod Declaring
