-- Crates below that are handed on.
pub use Rattle.check_parts.specs.Below.check_binds
pub use Rattle.check_named.specs.Below.check_frames
pub use Rattle.check_named
pub use Rattle.check_named.specs.Below.check_names
pub use Rattle.check_named.specs.Below.check_patterns
pub use Rattle.check_named.specs.Below.check_steps
