pub mod Filling
pub mod Gathering
pub mod Growth
pub mod Once
pub mod Settling
pub mod Standing
pub mod Unmarked
