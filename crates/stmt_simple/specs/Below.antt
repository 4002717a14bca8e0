-- Crates below that are handed on.
pub use Rattle.stmt_targets.specs.Below.check_frames
pub use Rattle.stmt_targets.specs.Below.check_scopes
pub use Rattle.stmt_targets.specs.Below.stmt_scopes
