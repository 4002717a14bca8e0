pub mod Threads
pub mod Made
pub mod Parts
