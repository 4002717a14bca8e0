pub mod Beginnings
pub mod Initials
pub mod Joins
pub mod Parts
pub mod Slots
