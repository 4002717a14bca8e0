pub mod Picking
pub mod Starts
pub mod Turns
