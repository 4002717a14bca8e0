pub mod Lexing
pub mod Longest
pub mod Rising
pub mod Scans
pub mod Signs
pub mod Table
pub mod Unicode
pub mod Values
