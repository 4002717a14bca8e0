use Rattle.std.proofs.Common.{◌≡◌, suc, ◌+◌, ◌-◌, Some, ap, sym, ◌∙◌, arith}
use Rattle.grammar_words.specs.declared.word.Word.TheVariants.{Comma}
use Rattle.stmt_reading.specs.Statements.{definition_in}
use Rattle.stmt_parts.specs.Lists.{definition_rows}
use Rattle.stmt_parts.proofs.Lists.{further-more, further-refused, further-end}
use Rattle.stmt_parts.proofs.Stops.{stopped}
use Rattle.stmt_parts.proofs.definitions.further_definitions.Goals as goal

pub returns-in_default : goal.returns-in_default
returns-in_default c =
    let left = c.args.turns - (c.loop-turn._turn + 1) in
    let more : c.args.turns - c.loop-turn._turn ≡ suc left = omega (arith, c.loop-turn-test.true) in
    record {
      given = sym c.loop-turn.invariant ∙ further-end Comma definition_in _ _ left _ more c.in_default.ensures.0 ∙ ap (λ rest. Some (definition_rows c.loop-turn.definitions.items, rest)) (sym c.in_default.ensures.1);
      refused = λ e. cc;
    }

pub returns-in_err-push_definition : goal.returns-in_err-push_definition
returns-in_err-push_definition c =
    let left = c.args.turns - (c.loop-turn._turn + 1) in
    let more : c.args.turns - c.loop-turn._turn ≡ suc left = omega (arith, c.loop-turn-test.true) in
    stopped c.from_residual.result _ _ _ _ c.from_residual.ensures.1
    (λ e. sym c.loop-turn.invariant ∙ further-refused Comma definition_in _ _ left _ _ _ more c.in-Some.ensures (c.in_err-push_definition.ensures.refused e))

pub loop-turn-preserved : goal.loop-turn-preserved
loop-turn-preserved c =
    let left = c.args.turns - (c.loop-turn._turn + 1) in
    let more : c.args.turns - c.loop-turn._turn ≡ suc left = omega (arith, c.loop-turn-test.true) in
    further-more Comma definition_in _ _ _ left _ _ _ _ more c.in-Some.ensures c.in_ok-push_definition.ensures.given ∙ c.loop-turn.invariant
