use Rattle.std.proofs.Common.{option_map}
use Rattle.expr_tree.specs.TypeDefView.{type_def_view}
use Rattle.record_names.proofs.Following.{Follows}
use Rattle.record_names.proofs.standing.record_type.Given as goal

-- the definition is the one by which the name stands for what it stands for
abbrev pub invariant-loop-step : goal.invariant-loop-step
invariant-loop-step g l =
    Follows (g.N.TypeNames.found l.names) (g.N.TypeNames.rank l.names) (g.met.N.TypeNames.ranked l.names) l.fn.scope l.fn.type_name
    (option_map (λ r. type_def_view r.now) l.found)
