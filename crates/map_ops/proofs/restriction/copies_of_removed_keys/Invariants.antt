use Rattle.std.proofs.Common.{◌≡◌, take, not}
use Rattle.std.specs.List.{filter}
use Rattle.abstract_syntax.specs.ValueSets.{Entry}
use Rattle.value_operators.specs.Members.{has}
use Rattle.map_ops.proofs.restriction.copies_of_removed_keys.Given as goal

abbrev pub invariant-loop-pair : goal.invariant-loop-pair
invariant-loop-pair l = l.kept.items ≡ filter (λ (p : Entry). not (has l.members p.0)) (take l.pair-index l.pairs)
