pub mod Behind
pub mod ByNumber
pub mod Counted
pub mod Lines
pub mod Notes
