pub mod Agreements
pub mod Resolved
pub mod Rows
pub mod Ways
