pub mod Counting
pub mod Journals
pub mod Known
pub mod Sanity
pub mod States
pub mod Taken
