pub mod Closers
pub mod Reads
pub mod TokenCode
