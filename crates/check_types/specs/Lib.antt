pub mod Below
pub mod Refusing
