mod Conditions
mod Lines
pub mod NoneToKeep
mod Rounds
mod Verdicts
mod Walking
