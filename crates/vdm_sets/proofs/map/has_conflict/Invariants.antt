use Rattle.std.proofs.Common.{◌≡◌, ℕ, ◌+◌, ◌<◌, get_or}
use Rattle.abstract_syntax.specs.ValueSets.{Entry}
use Rattle.vdm_sets.proofs.map.has_conflict.Given as goal

-- no two neighbours seen so far have one key
abbrev pub invariant-loop-i : goal.invariant-loop-i
invariant-loop-i l = (k : ℕ) (d : Entry) → k + 1 < l.i → (get_or l.pairs k d).0 ≡ (get_or l.pairs (k + 1) d).0 → ⊥
