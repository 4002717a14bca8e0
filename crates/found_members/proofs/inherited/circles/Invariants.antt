use Rattle.found_members.specs.Rows.{AreCircles}
use Rattle.found_members.proofs.inherited.circles.Given as goal

-- so many circles
abbrev pub invariant-loop-row : goal.invariant-loop-row
invariant-loop-row l = AreCircles l._row l.rows.items
