use Rattle.std.proofs.Common.{◌≡◌, ◌++◌, drop, map}
use Rattle.abstract_syntax.specs.Values.{character}
use Rattle.value_text.proofs.printed.push_characters.Given as goal

abbrev pub invariant-loop-c : goal.invariant-loop-c
invariant-loop-c l = l.text.items ++ map character (drop l.c-index l.found) ≡ l.initial.text.items ++ map character l.found
