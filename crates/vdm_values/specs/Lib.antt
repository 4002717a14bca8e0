pub mod Slots
pub mod Tree
pub mod TreeFalls
