pub mod Fits
pub mod Frames
pub mod Testings
pub mod Turned
