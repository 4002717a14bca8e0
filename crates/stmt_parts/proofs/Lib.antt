pub mod Lists
pub mod Stops
pub mod Trees
