pub mod Enough
pub mod Members
pub mod Paths
pub mod Orders
pub mod Finding
pub mod Held
