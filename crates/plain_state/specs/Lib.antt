pub mod Entered
pub mod Finishes
pub mod Found
pub mod Guarded
pub mod Holdings
pub mod Phases
pub mod Readiness
pub mod Refusals
