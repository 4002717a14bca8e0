pub mod Boards
pub mod Held
pub mod Moments
pub mod Passes
pub mod Rule
pub mod Steps
pub mod Views
pub mod Whole
