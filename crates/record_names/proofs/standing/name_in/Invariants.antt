use Rattle.std.proofs.Common.{◌≡◌}
use Rattle.pattern_meaning.specs.RecordTypes.{name_in}
use Rattle.type_tree.specs.TypeView.{type_view}
use Rattle.record_names.proofs.standing.name_in.Given as goal

-- the inner type has the name of the whole
abbrev pub invariant-loop-step : goal.invariant-loop-step
invariant-loop-step l = name_in (type_view l.inner) ≡ name_in (type_view l.fn.declared)
