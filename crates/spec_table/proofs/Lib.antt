pub mod Building
pub mod Meaning
pub mod Numbering
pub mod Owning
pub mod Reaching
