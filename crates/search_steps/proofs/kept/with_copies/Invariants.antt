use Rattle.std.proofs.Common.{◌≡◌, ◌++◌, map, drop}
use Rattle.search_steps.proofs.kept.with_copies.Given as goal

abbrev pub invariant-loop-value : goal.invariant-loop-value
invariant-loop-value l =
    l.all.items ++ map (λ v. v.now) (drop l.value-index l.more) ≡ l.fn.values.items ++ map (λ v. v.now) l.more
