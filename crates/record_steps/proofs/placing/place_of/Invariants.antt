use Rattle.std.proofs.Common.{◌≡◌, map, drop}
use Rattle.expr_tree.specs.TypeDefView.{field_view}
use Rattle.record_steps.specs.Places.{place_from}
use Rattle.record_steps.proofs.placing.place_of.Given as goal

abbrev pub invariant-loop-place : goal.invariant-loop-place
invariant-loop-place l =
    place_from l.fn.name l.place (drop l.place (map field_view l.fn.fields)) ≡ place_from l.fn.name 0 (map field_view l.fn.fields)
