pub mod Heads
pub mod Offers
