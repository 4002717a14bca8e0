pub mod Outcomes
pub mod Numbers
pub mod Members
pub mod Sets
pub mod Sequences
pub mod Maps
pub mod Operators
