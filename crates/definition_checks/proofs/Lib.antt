pub mod Same
pub mod Inner
pub mod Headed
