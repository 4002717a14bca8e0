pub mod Main
pub mod Entries
pub mod Runs
pub mod Worked
pub mod WorkedCalls
pub mod WorkedInvariants
pub mod WorkedPrints
