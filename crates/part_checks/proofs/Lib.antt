pub mod Wanted
pub mod Bracketed
pub mod Bound
