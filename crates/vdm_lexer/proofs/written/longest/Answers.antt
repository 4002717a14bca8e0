use Rattle.std.proofs.Common.{arith}
use Rattle.vdm_lexer.proofs.Signs.{longest-step, longest-end}
use Rattle.vdm_lexer.proofs.written.longest.Goals as goal

pub loop-row-preserved : goal.loop-row-preserved
loop-row-preserved c = longest-step (λ row. row.0.now) _ c.args.text.now c.args.rows.now c.loop-row.row-index c.loop-row-test.true _ _ _ _ c.loop-row.invariant c.sign_length.ensures c.max-longest.ensures

pub returns : goal.returns
returns c = longest-end (λ row. row.0.now) _ c.args.text.now c.args.rows.now c.loop-row.row-index _ (omega arith) c.loop-row.invariant
