use Rattle.std.proofs.Common.{◌≡◌, drop, map}
use Rattle.form_meaning.specs.Forms.{no_form}
use Rattle.class_checks.specs.Shapes.{all_seen}
use Rattle.check_shapes.specs.ShapeView.{seen_view}
use Rattle.check_shapes.proofs.gathering.all_seen.Given as goal

abbrev pub invariant-loop-seen : goal.invariant-loop-seen
invariant-loop-seen l =
    all_seen l.known (map seen_view (drop l.seen-index l.done)) ≡ all_seen no_form (map seen_view l.done)
