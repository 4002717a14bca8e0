-- Crates below that are handed on.
pub use Rattle.spec_check.specs.Below.spec_table
