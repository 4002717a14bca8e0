use Rattle.std.proofs.Common.{◌≡◌, ◌++◌}
use Rattle.std.specs.Vec.Iter.{into_iter_items}
use Rattle.node_meaning.specs.Envs.{bound_locals}
use Rattle.bind_steps.proofs.binding.bound.Given as goal

-- the locals so far, and what is still to be bound
abbrev pub invariant-loop-name : goal.invariant-loop-name
invariant-loop-name l = l.locals.items ++ bound_locals (into_iter_items l.name-iterator) ≡ l.fn.locals.items ++ bound_locals l.fn.binding
