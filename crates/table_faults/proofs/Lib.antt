pub mod Noting
pub mod Telling
pub mod Lines
pub mod Whole
