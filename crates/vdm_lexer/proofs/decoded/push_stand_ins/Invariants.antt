use Rattle.std.proofs.Common.{◌≡◌, ◌++◌, drop, map}
use Rattle.vdm_lexer.specs.Decoded.{stand_in}
use Rattle.vdm_lexer.proofs.decoded.push_stand_ins.Given as goal

-- what was added, and what the rest adds, is what all add
abbrev pub invariant-loop-b : goal.invariant-loop-b
invariant-loop-b l = l.fn.characters.items ++ map stand_in l.bytes ≡ l.characters.items ++ map stand_in (drop l.b-index l.bytes)
