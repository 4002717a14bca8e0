pub mod Behind
pub mod Bounds
pub mod Handed
