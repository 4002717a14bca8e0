use Rattle.std.proofs.Common.{◌≡◌, drop}
use Rattle.patterns.specs.Search.{to_come}
use Rattle.patterns.specs.Todos.{at, patterns_at, to_match_each}
use Rattle.patterns.proofs.work.Work.of_pairs.Given as goal

-- those from here on are to be matched
abbrev pub invariant-loop-index : goal.invariant-loop-index
invariant-loop-index l = to_come l.work ≡ to_match_each (patterns_at (drop l.index l.patterns)) (at (drop l.index l.values))
