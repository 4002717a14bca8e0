-- Crates below that are handed on.
pub use Rattle.check_scopes
pub use Rattle.check_scopes.specs.Below.spec_table
