use Rattle.std.proofs.Common.{◌≡◌, suc, ◌+◌, ◌-◌, map, Some, ap, sym, ◌∙◌, arith}
use Rattle.grammar_words.specs.declared.word.Word.TheVariants.{Semicolon}
use Rattle.stmt_reading.specs.Statements.{assignment_in}
use Rattle.vdm_tree.specs.StmtView.{assignment_view}
use Rattle.stmt_parts.proofs.Lists.{further-more, further-refused, further-end}
use Rattle.stmt_parts.proofs.Stops.{stopped}
use Rattle.stmt_parts.proofs.assignments.further_assignments.Goals as goal

pub returns-in_default : goal.returns-in_default
returns-in_default c =
    let left = c.args.turns - (c.loop-turn._turn + 1) in
    let more : c.args.turns - c.loop-turn._turn ≡ suc left = omega (arith, c.loop-turn-test.true) in
    record {
      given = sym c.loop-turn.invariant ∙ further-end Semicolon assignment_in _ _ left _ more c.in_default.ensures.0 ∙ ap (λ rest. Some (map assignment_view c.loop-turn.assignments.items, rest)) (sym c.in_default.ensures.1);
      refused = λ e. cc;
    }

pub returns-in_err-push_assignment : goal.returns-in_err-push_assignment
returns-in_err-push_assignment c =
    let left = c.args.turns - (c.loop-turn._turn + 1) in
    let more : c.args.turns - c.loop-turn._turn ≡ suc left = omega (arith, c.loop-turn-test.true) in
    stopped c.from_residual.result _ _ _ _ c.from_residual.ensures.1
    (λ e. sym c.loop-turn.invariant ∙ further-refused Semicolon assignment_in _ _ left _ _ _ more c.in-Some.ensures (c.in_err-push_assignment.ensures.refused e))

pub loop-turn-preserved : goal.loop-turn-preserved
loop-turn-preserved c =
    let left = c.args.turns - (c.loop-turn._turn + 1) in
    let more : c.args.turns - c.loop-turn._turn ≡ suc left = omega (arith, c.loop-turn-test.true) in
    further-more Semicolon assignment_in _ _ _ left _ _ _ _ more c.in-Some.ensures c.in_ok-push_assignment.ensures.given ∙ c.loop-turn.invariant
