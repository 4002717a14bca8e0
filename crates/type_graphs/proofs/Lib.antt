pub mod Numbering
mod Meant
