pub mod Tokens
pub mod Written
pub mod Pulls
