pub mod Definitions
pub mod Statements
pub mod Targets
pub mod Threads
pub mod WellTyped
