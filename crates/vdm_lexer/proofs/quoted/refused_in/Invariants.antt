use Rattle.std.proofs.Common.{◌≡◌, drop}
use Rattle.vdm_lexer.specs.Quoted.{refused_behind, refused_in}
use Rattle.vdm_lexer.proofs.Scans.{plus}
use Rattle.vdm_lexer.proofs.quoted.refused_in.Given as goal

-- the first refused escape stands behind what was read
abbrev pub invariant-loop-i : goal.invariant-loop-i
invariant-loop-i l = refused_in l.text ≡ plus l.i (refused_behind l.escaped (drop l.i l.text))
