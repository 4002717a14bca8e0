pub mod Beginning
pub mod Coming
pub mod Fitting
pub mod Joining
pub mod Moving
pub mod Olds
