pub mod Begun
pub mod Below
pub mod Calls
pub mod Firsts
pub mod Listed
pub mod Placed
pub mod Scoped
pub mod Viewed
