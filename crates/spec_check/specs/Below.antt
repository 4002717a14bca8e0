-- Crates below that are handed on.
pub use Rattle.sync_checks.specs.Below.spec_table
