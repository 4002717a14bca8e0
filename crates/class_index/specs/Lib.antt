pub mod Answers
pub mod Calls
pub mod Io
pub mod Lists
pub mod Numbers
pub mod Places
