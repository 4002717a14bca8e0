pub mod Beginnings
pub mod Between
pub mod Lets
pub mod Openings
