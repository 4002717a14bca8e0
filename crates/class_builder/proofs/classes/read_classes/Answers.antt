use Rattle.std.proofs.Common.{◌≡◌, suc, ◌+◌, ◌-◌, ap, ◌∙◌, arith}
use Rattle.vdm_tree.specs.ClassView.{class_view}
use Rattle.stmt_reading.specs.Classes.{classes_in}
use Rattle.definition_parts.proofs.Lists.{turn-end, turn-more}
use Rattle.class_builder.proofs.Turns.{classes-end, classes-more}
use Rattle.class_builder.proofs.classes.read_classes.Goals as goal

pub returns-in_default : goal.returns-in_default
returns-in_default c =
    let turn = c.loop-turn in
    record { given = turn-end class_view _ turn.classes.items _ turn.invariant c.take_word.new.self (classes-end (c.args.turns - turn._turn) turn.source c.take_word.new.self (omega arith) c.in_default.ensures.0 c.in_default.ensures.1); refused = λ e. cc }

pub loop-turn-preserved : goal.loop-turn-preserved
loop-turn-preserved c =
    let turn = c.loop-turn in
    let left = c.args.turns - (turn._turn + 1) in
    let one_more : c.args.turns - turn._turn ≡ suc left = omega arith in
    turn-more class_view _ turn.classes.items _ turn.invariant _ c.push.new.self.items _ c.in_ok-push.ensures.items
    (ap (λ turns. classes_in turns turn.source) one_more
    ∙ classes-more left turn.source c.take_word.new.self c.read_class.new.source _ _ c.in-Some.ensures c.in_ok-read_class.ensures.given)
