pub mod AtEnd
pub mod Ending
