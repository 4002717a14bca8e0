pub mod Decoding
pub mod Naming
pub mod Readable
pub mod Reading
