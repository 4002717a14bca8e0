use Rattle.std.proofs.Common.{◌≡◌, take, map}
use Rattle.pattern_meaning.specs.Bindings.{IsWithinLimits}
use Rattle.patterns.specs.Todos.{subject_tree}
use Rattle.patterns.specs.declared.bound.Bound.{Bound}
use Rattle.patterns.proofs.binding.copies.Given as goal

-- those so far are copied, and within the limits
abbrev pub invariant-loop-bound : goal.invariant-loop-bound
invariant-loop-bound l = record {
  same : l.pairs.items ≡ map (λ (b : Bound). (b.name, subject_tree b.subject)) (take l.bound-index l.bounds);
  within : IsWithinLimits l.pairs.items;
}
