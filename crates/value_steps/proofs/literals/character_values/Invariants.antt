use Rattle.std.proofs.Common.{◌≡◌, map, take}
use Rattle.abstract_syntax.specs.Values.{character}
use Rattle.value_steps.proofs.literals.character_values.Given as goal

abbrev pub invariant-loop-c : goal.invariant-loop-c
invariant-loop-c l = l.values.items ≡ map character (take l.c-index l.characters)
