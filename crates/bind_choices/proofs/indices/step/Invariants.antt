use Rattle.bind_choices.proofs.Turns.{Turning}
use Rattle.bind_choices.proofs.indices.step.Given as goal

abbrev pub invariant-loop-place : goal.invariant-loop-place
invariant-loop-place l = Turning l.lists l.fn.indices l.indices l.place
