use Rattle.std.proofs.Common.{◌≡◌, drop, map}
use Rattle.class_checks.specs.Operators.{is_source}
use Rattle.class_checks.specs.Shapes.{unfit}
use Rattle.check_shapes.specs.ShapeView.{seen_view}
use Rattle.check_operators.specs.Sources.{source_of}
use Rattle.check_shapes.proofs.gathering.is_unfit.Given as goal

abbrev pub invariant-loop-i : goal.invariant-loop-i
invariant-loop-i l =
    unfit (is_source (source_of l.source)) l.i (map seen_view (drop l.i l.done))
    ≡ unfit (is_source (source_of l.source)) 0 (map seen_view l.done)
