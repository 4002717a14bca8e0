use Rattle.std.proofs.Common.{◌∙◌, sym, arith}
use Rattle.vdm_lexer.proofs.Scans.{begins-same, begins-other, begins-short, begins-end, same-item}
use Rattle.vdm_lexer.proofs.piece.begins.Goals as goal

pub loop-i-preserved : goal.loop-i-preserved
loop-i-preserved c = c.loop-i.invariant ∙ begins-same c.args.text.now c.args.other.now c.loop-i.i c.if-i-text.false c.loop-i-test.true (sym (same-item c.args.text.now c.loop-i.i _ c.if-i-text.false c.index-text-i.is) ∙ c.if-text-i.false ∙ c.from.ensures)

pub returns-then-i-text : goal.returns-then-i-text
returns-then-i-text c = sym (c.loop-i.invariant ∙ begins-short c.args.text.now c.args.other.now c.loop-i.i (omega arith) c.loop-i-test.true)

pub returns-then-text-i : goal.returns-then-text-i
returns-then-text-i c = sym (c.loop-i.invariant ∙ begins-other c.args.text.now c.args.other.now c.loop-i.i c.if-i-text.false c.loop-i-test.true (λ e. c.if-text-i.true (same-item c.args.text.now c.loop-i.i _ c.if-i-text.false c.index-text-i.is ∙ e ∙ sym c.from.ensures)))

pub returns : goal.returns
returns c = sym (c.loop-i.invariant ∙ begins-end c.args.text.now c.args.other.now c.loop-i.i (omega arith))
