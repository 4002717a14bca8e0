use Rattle.std.proofs.Common.{◌≡◌, take, true}
use Rattle.std.specs.List.{list_all}
use Rattle.abstract_syntax.specs.ValueSets.{Entry}
use Rattle.value_operators.specs.Sequences.{is_position}
use Rattle.seq_ops.proofs.replacing.are_positions.Given as goal

abbrev pub invariant-loop-pair : goal.invariant-loop-pair
invariant-loop-pair l = list_all (λ (p : Entry). is_position l.count p.0) (take l.pair-index l.pairs) ≡ true
