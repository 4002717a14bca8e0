use Rattle.std.proofs.Common.{◌≡◌, take, true, map}
use Rattle.std.specs.List.{list_all, flat_map}
use Rattle.value_operators.specs.Sequences.{is_sequence, items_of}
use Rattle.seq_ops.proofs.joining.all_parts.Given as goal

abbrev pub invariant-loop-part : goal.invariant-loop-part
invariant-loop-part l = record {
  parts : list_all is_sequence (take l.part-index l.parts) ≡ true;
  whole : l.items.items ≡ flat_map (λ vs. vs) (map items_of (take l.part-index l.parts));
}
