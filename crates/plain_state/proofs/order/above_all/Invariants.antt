use Rattle.std.proofs.Common.{◌≡◌, drop}
use Rattle.std.specs.Prelude.{max}
use Rattle.vdm_legal.specs.Order.{above_all}
use Rattle.plain_state.proofs.order.above_all.Given as goal

-- the greatest so far and the rest decide
abbrev pub invariant-loop-entry : goal.invariant-loop-entry
invariant-loop-entry l = max l.above (above_all (drop l.entry-index l.entries)) ≡ above_all l.entries
