use Rattle.std.proofs.Common.{◌≡◌, drop}
use Rattle.vdm_lexer.specs.Quoted.{close_behind, close_of}
use Rattle.vdm_lexer.proofs.Scans.{plus}
use Rattle.vdm_lexer.proofs.quoted.close_of.Given as goal

-- the sign stands behind what was read
abbrev pub invariant-loop-i : goal.invariant-loop-i
invariant-loop-i l = close_of l.sign l.text ≡ plus l.i (close_behind l.sign l.escaped (drop l.i l.text))
