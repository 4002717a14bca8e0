pub mod Arguments
pub mod LookUps
pub mod Newest
pub mod Plans
