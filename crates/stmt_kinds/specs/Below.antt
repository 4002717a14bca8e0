-- Crates below that are handed on.
pub use Rattle.stmt_simple.specs.Below.check_frames
pub use Rattle.stmt_simple.specs.Below.check_scopes
pub use Rattle.stmt_bound.specs.Below.stmt_pending
pub use Rattle.stmt_simple.specs.Below.stmt_scopes
