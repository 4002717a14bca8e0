pub mod Leaves
pub mod Statements
pub mod Definitions
pub mod Classes
pub mod Worked
