use Rattle.std.proofs.Common.{◌≡◌, drop, map}
use Rattle.form_meaning.specs.Forms.{no_form}
use Rattle.class_checks.specs.Shapes.{all_seen}
use Rattle.check_shapes.specs.InTurn.{in_turn}
use Rattle.check_shapes.specs.ShapeView.{seen_view}
use Rattle.check_shapes.proofs.gathering.seen_in_turn.Given as goal

abbrev pub invariant-loop-seen : goal.invariant-loop-seen
invariant-loop-seen l =
    all_seen l.known (in_turn l.takes (map seen_view (drop l.seen-index l.done)))
    ≡ all_seen no_form (in_turn l.first (map seen_view l.done))
