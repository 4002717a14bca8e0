pub mod Forms
pub mod Meeting
pub mod Parts
pub mod Types
pub mod Worked
