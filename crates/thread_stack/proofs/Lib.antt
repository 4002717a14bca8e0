pub mod Loads
pub mod OfTasks
pub mod Standings
pub mod Surroundings
