pub mod Standings
pub mod Asked
