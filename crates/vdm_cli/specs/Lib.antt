pub mod Commands
pub mod Meant
pub mod RunEnds
pub mod Headline
pub mod Following
