use Rattle.std.proofs.Common.{◌≡◌, ◌++◌, map, drop}
use Rattle.function_steps.proofs.parameters.each_value.Given as goal

abbrev pub invariant-loop-value : goal.invariant-loop-value
invariant-loop-value l = map (λ v. v.now) l.found.items ++ drop l.value-index l.values ≡ l.values
