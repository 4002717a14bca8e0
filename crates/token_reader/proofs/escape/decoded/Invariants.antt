use Rattle.std.proofs.Common.{◌≡◌, ◌++◌, drop}
use Rattle.token_reader.specs.Values.{decoded_behind}
use Rattle.token_reader.proofs.escape.decoded.Given as goal

-- what was decoded so far, before what the rest stands for, is what all stands for
abbrev pub invariant-loop-i : goal.invariant-loop-i
invariant-loop-i l = decoded_behind 0 l.text ≡ l.found.items ++ decoded_behind l.skipped (drop l.i l.text)
