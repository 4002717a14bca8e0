use Rattle.std.proofs.Common.{◌∙◌, sym, arith}
use Rattle.vdm_lexer.proofs.Table.{kind-here, kind-on, kind-end}
use Rattle.vdm_lexer.proofs.written.kind_in.Goals as goal

pub loop-row-preserved : goal.loop-row-preserved
loop-row-preserved c = c.loop-row.invariant ∙ kind-on (λ row. row.0.now) (λ row. row.1) c.args.text.now c.args.rows.now c.loop-row.row-index _ c.loop-row-test.true (sym c.is_text.ensures ∙ c.if-is_text.false)

pub returns-then-is_text : goal.returns-then-is_text
returns-then-is_text c = sym (c.loop-row.invariant ∙ kind-here (λ row. row.0.now) (λ row. row.1) c.args.text.now c.args.rows.now c.loop-row.row-index _ c.loop-row-test.true (sym c.is_text.ensures ∙ c.if-is_text.true))

pub returns : goal.returns
returns c = sym (c.loop-row.invariant ∙ kind-end (λ row. row.0.now) (λ row. row.1) c.args.text.now c.args.rows.now c.loop-row.row-index (omega arith))
