use Rattle.std.proofs.Common.{◌≡◌, suc, ◌+◌, ◌-◌, ap, ◌∙◌, arith}
use Rattle.grammar_words.specs.declared.word.Word.TheVariants.{Comma}
use Rattle.stmt_reading.specs.Leaves.{further, name_in}
use Rattle.definition_parts.proofs.Lists.{name-turn-end, name-turn-more, names-end, names-more}
use Rattle.definition_parts.proofs.names.read_names.Goals as goal

pub returns-in_default : goal.returns-in_default
returns-in_default c =
    let turn = c.loop-turn in
    record { given = name-turn-end _ turn.names.items _ turn.invariant c.take_word.new.self (names-end (c.len-turns.result + 1 - turn._turn) turn.source c.take_word.new.self (omega arith) c.in_default.ensures.0 c.in_default.ensures.1); refused = λ e. cc }

pub loop-turn-preserved : goal.loop-turn-preserved
loop-turn-preserved c =
    let turn = c.loop-turn in
    let left = c.len-turns.result + 1 - (turn._turn + 1) in
    let one_more : c.len-turns.result + 1 - turn._turn ≡ suc left = omega arith in
    name-turn-more _ turn.names.items _ turn.invariant _ c.push-in-loop-turn.new.self.items _ c.in_ok-push-2.ensures.items
    (ap (λ turns. further Comma name_in turns turn.source) one_more
    ∙ names-more left turn.source c.take_word.new.self c.name-in-loop-turn.new.self _ _ c.in-Some.ensures c.in_ok-name-2.ensures.given)
