pub mod Lists
pub mod Targets
pub mod Whole
