use Rattle.std.proofs.Common.{List, ℕ, codes, ap, sym, ◌∙◌}
use Rattle.vdm_lexer.specs.Pieces.{begins}
use Rattle.vdm_lexer.proofs.Scans.{comment-here, comment-on}
use Rattle.vdm_lexer.proofs.comment.comment_close.Goals as goal

pub loop-i-preserved : goal.loop-i-preserved
loop-i-preserved c = c.loop-i.invariant ∙ comment-on c.args.text.now c.loop-i.i c.loop-i-test.true (ap (λ (t : List ℕ). begins t (codes "*/")) (sym c.behind.ensures.behind) ∙ sym c.begins.ensures ∙ c.if-begins.false)

pub returns-then-begins-clause-close : goal.returns-then-begins-clause-close
returns-then-begins-clause-close c = sym (c.loop-i.invariant ∙ comment-here c.args.text.now c.loop-i.i c.loop-i-test.true (ap (λ (t : List ℕ). begins t (codes "*/")) (sym c.behind.ensures.behind) ∙ sym c.begins.ensures ∙ c.if-begins.true))
