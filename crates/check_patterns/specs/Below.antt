-- Crates below that are handed on.
pub use Rattle.check_types.specs.Below.check_scopes
pub use Rattle.check_types
pub use Rattle.check_types.specs.Below.spec_table
