-- Crates below that are handed on.
pub use Rattle.stmt_exprs.specs.Below.check_frames
pub use Rattle.stmt_exprs.specs.Below.check_names
pub use Rattle.stmt_exprs.specs.Below.check_scopes
pub use Rattle.stmt_exprs.specs.Below.spec_table
pub use Rattle.stmt_exprs.specs.Below.stmt_scopes
