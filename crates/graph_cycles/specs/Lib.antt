pub mod Graphs
pub mod Growing
