pub mod Below
pub mod Givens
pub mod Pending
pub mod Shown
