use Rattle.std.proofs.Common.{◌≡◌, drop}
use Rattle.std.specs.List.{list_any}
use Rattle.spec_table.specs.Tables.{table_spec}
use Rattle.kept_invariants.specs.Presence.{has_own}
use Rattle.kept_invariants.proofs.having.some_has.Given as goal

abbrev pub invariant-loop-class : goal.invariant-loop-class
invariant-loop-class l = list_any (has_own (table_spec l.table)) (drop l.class-index l.classes) ≡ list_any (has_own (table_spec l.table)) l.classes
