pub mod Built
pub mod Phases
pub mod Worked
