pub mod Firsts
pub mod Innermost
pub mod Alone
