use Rattle.std.proofs.Common.{◌≡◌}
use Rattle.conform.specs.Frames.{stands}
use Rattle.conform.proofs.shapes.collected.Given as goal

-- the test stands where it began
abbrev pub invariant-loop-step : goal.invariant-loop-step
invariant-loop-step g l =
    stands (g.N.TypeNames.found l.fn.names) (g.N.TypeNames.descends l.fn.names) (g.N.TypeNames.rank l.fn.names) l.collecting.found.items l.collecting.frames.items l.next
    ≡ stands (g.N.TypeNames.found l.fn.names) (g.N.TypeNames.descends l.fn.names) (g.N.TypeNames.rank l.fn.names) l.fn.collecting.found.items l.fn.collecting.frames.items l.fn.next
