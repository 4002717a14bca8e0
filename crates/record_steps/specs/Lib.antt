pub mod Fillings
pub mod Places
