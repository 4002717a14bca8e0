pub mod Stacks
