pub mod Closing
pub mod Factors
pub mod Levels
pub mod Lists
pub mod PatternLists
