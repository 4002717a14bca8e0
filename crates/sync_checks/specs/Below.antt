-- Crates below that are handed on.
pub use Rattle.part_checks.specs.Below.check_names
pub use Rattle.part_checks.specs.Below.check_scopes
pub use Rattle.part_checks.specs.Below.check_steps
pub use Rattle.part_checks.specs.Below.definition_scopes
pub use Rattle.part_checks.specs.Below.spec_table
