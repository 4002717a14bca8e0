pub mod Meaning
pub mod TypeRanks
