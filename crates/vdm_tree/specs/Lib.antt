pub mod ClassView
pub mod StmtView
