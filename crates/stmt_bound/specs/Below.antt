-- Crates below that are handed on.
pub use Rattle.stmt_pending
