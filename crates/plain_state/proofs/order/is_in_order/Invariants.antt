use Rattle.std.proofs.Common.{◌↔◌, take, drop}
use Rattle.spec_table.specs.Tables.{table_spec}
use Rattle.vdm_legal.specs.Order.{AreNumbered, IsInOrder}
use Rattle.plain_state.proofs.order.is_in_order.Given as goal

-- the entries so far have their numbers, so that the rest decides
abbrev pub invariant-loop-index : goal.invariant-loop-index
invariant-loop-index l = AreNumbered (table_spec l.table) (take l.index l.entries) (drop l.index l.entries) ↔ IsInOrder (table_spec l.table) l.entries
