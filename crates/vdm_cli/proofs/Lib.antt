pub mod Options
pub mod Choosing
pub mod AcceptedSpecs
pub mod Refusals
pub mod RunTexts
pub mod Keeping
pub mod Following
pub mod Whole
