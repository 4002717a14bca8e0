-- Crates below that are handed on.
pub use Rattle.check_steps.specs.Below.check_frames
pub use Rattle.check_steps.specs.Below.check_names
pub use Rattle.check_steps.specs.Below.check_patterns
pub use Rattle.check_steps.specs.Below.check_scopes
pub use Rattle.check_steps
pub use Rattle.check_steps.specs.Below.spec_table
