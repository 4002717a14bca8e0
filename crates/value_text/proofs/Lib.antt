pub mod Coming
pub mod Sequences
