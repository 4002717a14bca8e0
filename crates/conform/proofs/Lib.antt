pub mod Judging
pub mod Lists
pub mod Makings
pub mod OfTypes
pub mod OneByOne
pub mod Turnings
pub mod Turns
pub mod Unions
