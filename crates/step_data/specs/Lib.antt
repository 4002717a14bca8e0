pub mod Actions
pub mod Callings
pub mod Declarations
pub mod Goals
pub mod Meetings
pub mod Parts
