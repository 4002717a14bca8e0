pub mod Behind
pub mod Callees
pub mod Merging
pub mod Selections
pub mod Wants
