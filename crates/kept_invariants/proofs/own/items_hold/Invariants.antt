use Rattle.std.proofs.Common.{◌≡◌, drop}
use Rattle.spec_table.specs.Tables.{table_spec}
use Rattle.kept_invariants.proofs.Conditions.{items_hold}
use Rattle.kept_invariants.proofs.own.items_hold.Given as goal

-- those so far hold, so that the rest decides
abbrev pub invariant-loop-item : goal.invariant-loop-item
invariant-loop-item l = items_hold (table_spec l.table) l.env (drop l.item-index l.items) ≡ items_hold (table_spec l.table) l.env l.items
