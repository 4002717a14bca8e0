pub mod Counted
pub mod Counting
pub mod Ending
pub mod Holding
pub mod Losing
pub mod Rounds
pub mod Stepping
