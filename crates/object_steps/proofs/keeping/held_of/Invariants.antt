use Rattle.std.proofs.Common.{◌≡◌, ◌++◌, drop}
use Rattle.stmt_meaning.specs.Keeping.{holding_of}
use Rattle.object_steps.proofs.keeping.held_of.Given as goal

-- those so far, and what the rest gives, are what the whole gives
abbrev pub invariant-loop-variable : goal.invariant-loop-variable
invariant-loop-variable l = l.pairs.items ++ holding_of (drop l.variable-index l.variables) l.left ≡ holding_of l.variables l.slots
