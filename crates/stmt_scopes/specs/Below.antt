-- Crates below that are handed on.
pub use Rattle.check_frames
pub use Rattle.check_frames.specs.Below.check_operators
pub use Rattle.check_frames.specs.Below.check_patterns
pub use Rattle.check_frames.specs.Below.check_scopes
pub use Rattle.check_frames.specs.Below.spec_table
