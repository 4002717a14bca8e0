use Rattle.std.proofs.Common.{◌≡◌, take, map, length}
use Rattle.abstract_syntax.specs.Values.{character}
use Rattle.patterns.proofs.literals.is_text.Given as goal

-- those so far are the same
abbrev pub invariant-loop-wanted : goal.invariant-loop-wanted
invariant-loop-wanted l = take (length l.yielded) l.items ≡ map character (take (length l.yielded) l.characters)
