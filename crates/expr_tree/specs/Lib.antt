pub mod Alternatives
pub mod TypeDefView
pub mod View
