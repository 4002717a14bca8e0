pub mod LiteralView
pub mod TypeView
