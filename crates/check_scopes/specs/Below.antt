-- Crates below that are handed on.
pub use Rattle.spec_table
