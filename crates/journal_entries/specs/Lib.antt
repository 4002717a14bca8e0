pub mod Wanted
pub mod Laws
