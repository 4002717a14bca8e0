use Rattle.std.proofs.Common.{◌≡◌, suc, ◌+◌, ◌-◌, map, Some, ap, sym, ◌∙◌, arith}
use Rattle.stmt_reading.specs.Leaves.{turns_for}
use Rattle.vdm_tree.specs.StmtView.{dcl_view}
use Rattle.stmt_parts.proofs.Lists.{dcls-more, dcls-refused, dcls-end}
use Rattle.stmt_parts.proofs.Stops.{stopped}
use Rattle.stmt_parts.proofs.blocks.listed_dcls.Goals as goal

pub returns-in_default : goal.returns-in_default
returns-in_default c =
    let left = turns_for c.args.source.now - (c.loop-turn._turn + 1) in
    let more : turns_for c.args.source.now - c.loop-turn._turn ≡ suc left = omega (arith, c.loop-turn-test.true, c.len-turn-end.ensures.length) in
    record {
      given = sym c.loop-turn.invariant ∙ dcls-end _ _ left _ more c.in_default.ensures.0 ∙ ap (λ rest. Some (map dcl_view c.loop-turn.dcls.items, rest)) (sym c.in_default.ensures.1);
      refused = λ e. cc;
    }

pub returns-in_err-push_dcl : goal.returns-in_err-push_dcl
returns-in_err-push_dcl c =
    let left = turns_for c.args.source.now - (c.loop-turn._turn + 1) in
    let more : turns_for c.args.source.now - c.loop-turn._turn ≡ suc left = omega (arith, c.loop-turn-test.true, c.len-turn-end.ensures.length) in
    stopped c.from_residual.result _ _ _ _ c.from_residual.ensures.1
    (λ e. sym c.loop-turn.invariant ∙ dcls-refused _ _ left _ _ _ more c.in-Some.ensures (c.in_err-push_dcl.ensures.refused e))

pub loop-turn-preserved : goal.loop-turn-preserved
loop-turn-preserved c =
    let left = turns_for c.args.source.now - (c.loop-turn._turn + 1) in
    let more : turns_for c.args.source.now - c.loop-turn._turn ≡ suc left = omega (arith, c.loop-turn-test.true, c.len-turn-end.ensures.length) in
    dcls-more _ _ _ left _ _ _ _ more c.in-Some.ensures c.in_ok-push_dcl.ensures.given ∙ c.loop-turn.invariant
