pub mod Kept
pub mod Joined
pub mod Numbered
pub mod Subsets
