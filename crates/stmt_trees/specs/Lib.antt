pub mod Pieces
pub mod Targets
pub mod StmtSpelling
pub mod StmtGrammar
pub mod Heads
pub mod ClassSpelling
pub mod ClassGrammar
pub mod Trees
