pub mod Rows
pub mod Fronts
