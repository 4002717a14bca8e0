-- Crates below that are handed on.
pub use Rattle.target_steps.specs.Below.check_frames
pub use Rattle.target_steps.specs.Below.check_scopes
pub use Rattle.target_steps.specs.Below.stmt_scopes
