use Rattle.std.proofs.Common.{ℕ, ◌==◌, ◌&&◌, not, ap, sym, ◌∙◌}
use Rattle.vdm_lexer.specs.Quoted.{escapes}
use Rattle.vdm_lexer.proofs.Scans.{close-here, close-on, same-item}
use Rattle.vdm_lexer.proofs.quoted.close_of.Goals as goal

pub loop-i-preserved : goal.loop-i-preserved
loop-i-preserved c =
    let item = same-item c.args.text.now c.loop-i.i _ c.loop-i-test.true c.index-text-i.is in
    c.loop-i.invariant
    ∙ close-on c.args.text.now c.loop-i.i c.loop-i-test.true c.args.sign c.loop-i.escaped c.escapes-escaped.result
    (ap (λ (x : ℕ). not c.loop-i.escaped && x == c.args.sign) (sym item) ∙ sym c.closes.ensures ∙ c.if-closes.false)
    (c.escapes-escaped.ensures ∙ ap (escapes c.loop-i.escaped) item)

pub returns-then-closes-clause-close : goal.returns-then-closes-clause-close
returns-then-closes-clause-close c =
    let item = same-item c.args.text.now c.loop-i.i _ c.loop-i-test.true c.index-text-i.is in
    sym (c.loop-i.invariant
    ∙ close-here c.args.text.now c.loop-i.i c.loop-i-test.true c.args.sign c.loop-i.escaped
    (ap (λ (x : ℕ). not c.loop-i.escaped && x == c.args.sign) (sym item) ∙ sym c.closes.ensures ∙ c.if-closes.true))
