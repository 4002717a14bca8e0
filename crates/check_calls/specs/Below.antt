-- Crates below that are handed on.
pub use Rattle.check_names
pub use Rattle.check_fields.specs.Below.check_scopes
pub use Rattle.check_fields.specs.Below.spec_table
