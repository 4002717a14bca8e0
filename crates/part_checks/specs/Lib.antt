pub mod Below
pub mod Wanting
pub mod Binding
pub mod Behind
