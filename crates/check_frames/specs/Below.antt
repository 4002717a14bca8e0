-- Crates below that are handed on.
pub use Rattle.check_shapes.specs.Below.check_operators
pub use Rattle.check_patterns
pub use Rattle.check_patterns.specs.Below.check_scopes
pub use Rattle.check_shapes
pub use Rattle.check_patterns.specs.Below.check_types
pub use Rattle.check_patterns.specs.Below.spec_table
