pub mod Asking
pub mod Covering
pub mod Placing
mod Indexing
