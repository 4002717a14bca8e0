pub mod Firsts
pub mod Members
pub mod Tried
