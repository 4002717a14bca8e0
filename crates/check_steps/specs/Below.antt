-- Crates below that are handed on.
pub use Rattle.check_calls
pub use Rattle.check_frames
pub use Rattle.check_calls.specs.Below.check_names
pub use Rattle.check_frames.specs.Below.check_patterns
pub use Rattle.check_calls.specs.Below.check_scopes
pub use Rattle.check_frames.specs.Below.check_shapes
pub use Rattle.check_frames.specs.Below.check_types
pub use Rattle.check_calls.specs.Below.spec_table
