pub mod Searches
pub mod Limits
pub mod Operands
