-- Crates below that are handed on.
pub use Rattle.type_check.specs.Below.check_binds
pub use Rattle.type_check.specs.Below.check_frames
pub use Rattle.type_check.specs.Below.check_named
pub use Rattle.type_check.specs.Below.check_names
pub use Rattle.definition_scopes.specs.Below.check_scopes
pub use Rattle.type_check.specs.Below.check_steps
pub use Rattle.definition_scopes
pub use Rattle.definition_scopes.specs.Below.spec_table
