-- Crates below that are handed on.
pub use Rattle.stmt_kinds.specs.Below.stmt_scopes
