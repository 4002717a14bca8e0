use Rattle.std.proofs.Common.{◌≡◌, take}
use Rattle.node_meaning.specs.Envs.{bound_locals}
use Rattle.expr_eval.proofs.env.bound.Given as goal

-- those so far are bound
abbrev pub invariant-loop-name : goal.invariant-loop-name
invariant-loop-name l = l.locals.items ≡ bound_locals (take l.name-index l.pairs)
