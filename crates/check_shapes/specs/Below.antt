-- Crates below that are handed on.
pub use Rattle.check_operators
