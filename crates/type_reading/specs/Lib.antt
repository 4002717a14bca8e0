pub mod Reading
pub mod TypeSpelling
