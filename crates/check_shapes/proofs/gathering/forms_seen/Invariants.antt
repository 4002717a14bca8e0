use Rattle.std.proofs.Common.{◌≡◌, drop, map}
use Rattle.class_checks.specs.Shapes.{forms_seen}
use Rattle.type_forms.specs.Tree.{form_trees}
use Rattle.check_shapes.specs.ShapeView.{seen_view}
use Rattle.check_shapes.proofs.Lists.{forms_then}
use Rattle.check_shapes.proofs.gathering.forms_seen.Given as goal

abbrev pub invariant-loop-seen : goal.invariant-loop-seen
invariant-loop-seen l =
    forms_then (form_trees l.forms.items) (forms_seen (map seen_view (drop l.seen-index l.done)))
    ≡ forms_seen (map seen_view l.done)
