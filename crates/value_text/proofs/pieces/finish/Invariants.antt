use Rattle.std.proofs.Common.{◌≡◌}
use Rattle.std.specs.String.{string_bytes}
use Rattle.value_text.specs.Coming.{whole_text}
use Rattle.value_text.proofs.pieces.finish.Given as goal

abbrev pub invariant-loop-turn : goal.invariant-loop-turn
invariant-loop-turn l =
    whole_text l.names (string_bytes l.text) l.pieces.items ≡ whole_text l.names (string_bytes l.initial.text) l.initial.pieces.items
