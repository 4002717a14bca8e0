pub mod Below
pub mod Numbers
pub mod Releases
pub mod Threads
