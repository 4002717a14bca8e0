pub mod Begun
pub mod OfParts
pub mod Views
