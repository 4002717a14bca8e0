pub mod Dropped
pub mod GivenResults
pub mod Listed
