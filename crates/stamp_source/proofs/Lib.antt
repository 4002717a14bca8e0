pub mod Cutting
pub mod Drawing
pub mod Joining
pub mod Piles
