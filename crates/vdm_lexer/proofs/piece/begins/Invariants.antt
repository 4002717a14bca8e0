use Rattle.std.proofs.Common.{◌≡◌, drop}
use Rattle.vdm_lexer.specs.Pieces.{begins}
use Rattle.vdm_lexer.proofs.piece.begins.Given as goal

-- what is left of both decides
abbrev pub invariant-loop-i : goal.invariant-loop-i
invariant-loop-i l = begins l.text l.other ≡ begins (drop l.i l.text) (drop l.i l.other)
