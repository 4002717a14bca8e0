use Rattle.std.proofs.Common.{◌≡◌, drop}
use Rattle.class_checks.specs.Callees.{wants_joined}
use Rattle.check_calls.proofs.Wants.{forms_then}
use Rattle.type_forms.specs.Tree.{form_trees}
use Rattle.check_calls.proofs.selection.wants_joined.Given as goal

-- behind those that were joined, those that are left of both
abbrev pub invariant-loop-i : goal.invariant-loop-i
invariant-loop-i l =
    forms_then (form_trees l.wants.items) (wants_joined (form_trees (drop l.i l.known)) (form_trees (drop l.i l.others)))
    ≡ wants_joined (form_trees l.known) (form_trees l.others)
