pub mod Behinds
pub mod Bracketed
