pub mod Beginnings
pub mod LetLists
pub mod Regroup
