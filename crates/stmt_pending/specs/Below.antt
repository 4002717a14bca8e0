-- Crates below that are handed on.
pub use Rattle.stmt_scopes.specs.Below.check_frames
pub use Rattle.stmt_scopes.specs.Below.check_scopes
pub use Rattle.stmt_scopes
