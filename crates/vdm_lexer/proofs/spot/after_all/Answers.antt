use Rattle.std.proofs.Common.{◌≡◌, ◌+◌, drop, ap, sym, ◌∙◌, arith}
use Rattle.vdm_kinds.specs.declared.place.Place.{Place}
use Rattle.vdm_lexer.specs.Spots.{after, after_all}
use Rattle.vdm_lexer.proofs.Scans.{after_all-step, after-near, same-item}
use Rattle.vdm_lexer.proofs.spot.after_all.Goals as goal

pub loop-c-preserved : goal.loop-c-preserved
loop-c-preserved c =
    let item = same-item c.args.text.now c.loop-c.c-index _ c.loop-c-test.true c.c-item.is in
    let next : c.after-place.result ≡ after c.loop-c.place _ = c.after-place.ensures ∙ ap (after c.loop-c.place) item in
    let close = after-near c.loop-c.place c.after-place.result _ _ _ next c.loop-c.invariant.line c.loop-c.invariant.column in
    record {
      is = c.loop-c.invariant.is ∙ after_all-step c.loop-c.place c.args.text.now c.loop-c.c-index c.loop-c-test.true ∙ ap (λ (p : Place). after_all p (drop (c.loop-c.c-index + 1) c.args.text.now)) (sym next);
      line = omega arith;
      column = omega arith;
    }
