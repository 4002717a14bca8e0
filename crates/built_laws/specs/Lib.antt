pub mod Parts
pub mod Meant
pub mod MeantStmts
pub mod MeantClasses
pub mod Asked
