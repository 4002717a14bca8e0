pub mod Blocks
pub mod Branches
pub mod CaseLists
pub mod Trees
