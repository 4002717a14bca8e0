pub mod Evaluations
pub mod Turns
pub mod Weights
