-- Crates below that are handed on.
pub use Rattle.check_steps.specs.Below.check_calls
pub use Rattle.check_steps.specs.Below.check_frames
pub use Rattle.check_steps.specs.Below.check_scopes
pub use Rattle.check_steps.specs.Below.check_shapes
pub use Rattle.check_steps
