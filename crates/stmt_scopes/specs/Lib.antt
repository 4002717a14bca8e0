pub mod Before
pub mod Below
pub mod InTurn
pub mod Refused
pub mod Standing
