pub mod Commands
pub mod Searches
