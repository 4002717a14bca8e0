use Rattle.std.proofs.Common.{List, ℕ, ◌&&◌, not, ap, sym, ◌∙◌}
use Rattle.std.specs.Option.{is_some}
use Rattle.vdm_lexer.specs.Escapes.{escape_length}
use Rattle.vdm_lexer.specs.Quoted.{escapes}
use Rattle.vdm_lexer.proofs.Scans.{refused-here, refused-on, same-item}
use Rattle.vdm_lexer.proofs.quoted.refused_in.Goals as goal

pub loop-i-preserved : goal.loop-i-preserved
loop-i-preserved c =
    let item = same-item c.args.text.now c.loop-i.i _ c.loop-i-test.true c.index-text-i.is in
    c.loop-i.invariant
    ∙ refused-on c.args.text.now c.loop-i.i c.loop-i-test.true c.loop-i.escaped c.escapes-escaped.result
    (c.escapes-escaped.ensures ∙ ap (escapes c.loop-i.escaped) item)
    (ap (λ (t : List ℕ). c.escapes-escaped.result && not (is_some (escape_length t))) (sym c.behind.ensures.behind) ∙ sym c.is_refused.ensures ∙ c.if-is_refused.false)

pub returns-then-is_refused-clause-refused : goal.returns-then-is_refused-clause-refused
returns-then-is_refused-clause-refused c =
    let item = same-item c.args.text.now c.loop-i.i _ c.loop-i-test.true c.index-text-i.is in
    sym (c.loop-i.invariant
    ∙ refused-here c.args.text.now c.loop-i.i c.loop-i-test.true c.loop-i.escaped c.escapes-escaped.result
    (c.escapes-escaped.ensures ∙ ap (escapes c.loop-i.escaped) item)
    (ap (λ (t : List ℕ). c.escapes-escaped.result && not (is_some (escape_length t))) (sym c.behind.ensures.behind) ∙ sym c.is_refused.ensures ∙ c.if-is_refused.true))
