-- Crates below that are handed on.
pub use Rattle.stmt_scopes.specs.Below.check_frames
pub use Rattle.type_check.specs.Below.check_names
pub use Rattle.stmt_scopes.specs.Below.check_operators
pub use Rattle.stmt_scopes.specs.Below.check_scopes
pub use Rattle.type_check.specs.Below.check_steps
pub use Rattle.stmt_scopes.specs.Below.spec_table
pub use Rattle.stmt_scopes
