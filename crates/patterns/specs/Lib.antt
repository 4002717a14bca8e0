pub mod Lengths
pub mod Places
pub mod Search
pub mod Todos
