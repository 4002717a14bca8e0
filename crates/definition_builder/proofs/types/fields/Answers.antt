use Rattle.std.proofs.Common.{◌≡◌, suc, ◌+◌, ◌-◌, Err, ap, sym, ◌∙◌, arith, rules}
use Rattle.expr_tree.specs.TypeDefView.{field_view}
use Rattle.stmt_reading.specs.Definitions.{fields_in}
use Rattle.definition_parts.proofs.Lists.{turn-end, turn-more, turn-refused}
use Rattle.definition_builder.proofs.Turns.{fields-end, fields-no-colon, fields-no-type, fields-more}
use Rattle.definition_builder.proofs.types.fields.Goals as goal

pub returns-in_default : goal.returns-in_default
returns-in_default c =
    let turn = c.loop-turn in
    record { given = turn-end field_view _ turn.fields.items _ turn.invariant c.take_name.new.self (fields-end (c.args.turns - turn._turn) turn.source c.take_name.new.self (omega arith) c.in_default.ensures.0 c.in_default.ensures.1); refused = λ e. cc }

pub loop-turn-preserved : goal.loop-turn-preserved
loop-turn-preserved c =
    let turn = c.loop-turn in
    let left = c.args.turns - (turn._turn + 1) in
    let one_more : c.args.turns - turn._turn ≡ suc left = omega arith in
    turn-more field_view _ turn.fields.items _ turn.invariant _ c.push.new.self.items _ c.in_ok-push.ensures.items
    (ap (λ turns. fields_in turns turn.source) one_more
    ∙ fields-more left turn.source c.take_name.new.self c.word.new.self c.type_expr.new.self _ _ _ c.in-Some.ensures c.in_ok-word.ensures.given c.in_ok-declared.ensures.given)

pub returns-in_err-word : goal.returns-in_err-word
returns-in_err-word c =
    let turn = c.loop-turn in
    record {
      given = search rules;
      refused = λ e. turn-refused field_view _ turn.fields.items _ turn.invariant
          (fields-no-colon (c.args.turns - turn._turn) turn.source c.take_name.new.self _ (omega arith) c.in-Some.ensures
          (c.in_err-word.ensures.refused (let x = rw e at (c.from_residual.ensures.1) in ap Err (sym x))));
    }

pub returns-in_err-declared : goal.returns-in_err-declared
returns-in_err-declared c =
    let turn = c.loop-turn in
    record {
      given = search rules;
      refused = λ e. turn-refused field_view _ turn.fields.items _ turn.invariant
          (fields-no-type (c.args.turns - turn._turn) turn.source c.take_name.new.self c.word.new.self _ _ (omega arith) c.in-Some.ensures c.in_ok-word.ensures.given
          (c.in_err-declared.ensures.refused (let x = rw e at (c.from_residual-in_err-declared.ensures.1) in ap Err (sym x))));
    }
