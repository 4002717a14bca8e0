pub mod Kinds
pub mod Sources
pub mod Ways
