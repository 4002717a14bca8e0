use Rattle.std.proofs.Common.{Err, ap, sym, ◌∙◌, arith}
use Rattle.vdm_lexer.specs.Spots.{spot_after}
use Rattle.vdm_lexer.proofs.Lexing.{read-skipped, read-front, read-fault, spot-near}
use Rattle.vdm_lexer.proofs.Scans.{same-item}
use Rattle.vdm_lexer.proofs.lexer.lexemes_from.Goals as goal
use Rattle.vdm_lexer.proofs.lexer.lexemes_from.Goals.{then-skipped-gt0, else-skipped-gt0+in_ok-skipped}

pub loop-i-preserved : goal.loop-i-preserved
loop-i-preserved c =
    let was = c.loop-i.invariant in
    let next = c.spot_after-spot.ensures ∙ ap (spot_after c.loop-i.spot) (same-item c.args.text.now c.loop-i.i _ c.loop-i-test.true c.index-text-i.is) in
    let near = spot-near c.loop-i.spot c.spot_after-spot.result _ c.loop-i.i next was.near in
    elim c.if-skipped-gt0.branch [
      | then-skipped-gt0 w ↦ record {
        near = near;
        read = rw (w.lexemes-is, w.skipped-is, c.saturating_sub-good.ensures) (was.read ∙ read-skipped c.loop-i.good c.loop-i.spot c.spot_after-spot.result c.args.text.now c.loop-i.i c.loop-i-test.true next _ c.loop-i.skipped w.if-skipped-gt0.true);
      }
      | else-skipped-gt0+in_ok-skipped w ↦ record {
        near = near;
        read = rw (w.lexemes-is, w.skipped-is, c.saturating_sub-good.ensures) (was.read ∙ read-front c.loop-i.good c.loop-i.spot c.spot_after-spot.result c.args.text.now c.loop-i.i c.loop-i-test.true next _ _ c.loop-i.skipped _ (omega (arith, w.if-skipped-gt0.false)) (rw w.behind.ensures.behind at (w.in_ok-skipped.ensures.pushed)));
      }
    ]

pub returns-in_err-skipped-clause-refused : goal.returns-in_err-skipped-clause-refused
returns-in_err-skipped-clause-refused c fault e =
    c.loop-i.invariant.read
    ∙ read-fault c.loop-i.good c.loop-i.spot c.args.text.now c.loop-i.i c.loop-i-test.true _ c.loop-i.skipped fault (omega (arith, c.if-skipped-gt0.false)) (rw c.behind.ensures.behind at (c.in_err-skipped.ensures.refused fault (let x = rw e at (c.from_residual.ensures.1) in ap Err (sym x))))
