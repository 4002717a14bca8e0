pub mod Stacks
pub mod Pushes
