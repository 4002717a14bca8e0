use Rattle.std.proofs.Common.{◌≡◌, drop}
use Rattle.vdm_lexer.specs.Comments.{comment_close}
use Rattle.vdm_lexer.proofs.Scans.{plus}
use Rattle.vdm_lexer.proofs.comment.comment_close.Given as goal

-- the closing sign stands behind what was read
abbrev pub invariant-loop-i : goal.invariant-loop-i
invariant-loop-i l = comment_close l.text ≡ plus l.i (comment_close (drop l.i l.text))
