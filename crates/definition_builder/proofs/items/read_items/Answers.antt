use Rattle.std.proofs.Common.{◌≡◌, suc, ◌+◌, ◌-◌, Some, [], ap, sym, ◌∙◌, arith, rules}
use Rattle.stmt_reading.specs.Definitions.{items_in}
use Rattle.definition_parts.proofs.Lists.{turn-end, turn-more}
use Rattle.definition_builder.proofs.Turns.{items-end, items-last, items-more}
use Rattle.definition_builder.proofs.items.read_items.Goals as goal

pub returns-then-not-begins_item : goal.returns-then-not-begins_item
returns-then-not-begins_item g c =
    let turn = c.loop-turn in
    record {
      given = turn-end g.T.Item.view _ turn.items.items _ turn.invariant turn.source (items-end g.T.Item.begins (g.T.Item.reading c.args.turns c.args.class) (c.args.turns - turn._turn) turn.source (omega arith) (search rules));
      refused = λ e. cc;
    }

pub returns-in_default : goal.returns-in_default
returns-in_default g c =
    let turn = c.loop-turn in
    let whole = turn-more g.T.Item.view _ turn.items.items _ turn.invariant _ c.push.new.self.items (Some ([], c.read.new.source)) c.in_ok-push.ensures.items
    (items-last g.T.Item.begins (g.T.Item.reading c.args.turns c.args.class) (c.args.turns - turn._turn) turn.source c.read.new.source _ (omega arith) (search rules) c.in_ok-read.ensures.given c.in_default.ensures.0) in
    record { given = turn-end g.T.Item.view _ c.push.new.self.items (Some ([], c.read.new.source)) whole c.take_word.new.self (ap (λ rest. Some ([], rest)) (sym c.in_default.ensures.1)); refused = λ e. cc }

pub loop-turn-preserved : goal.loop-turn-preserved
loop-turn-preserved g c =
    let turn = c.loop-turn in
    let left = c.args.turns - (turn._turn + 1) in
    let one_more : c.args.turns - turn._turn ≡ suc left = omega arith in
    turn-more g.T.Item.view _ turn.items.items _ turn.invariant _ c.push.new.self.items _ c.in_ok-push.ensures.items
    (ap (λ turns. items_in g.T.Item.begins (g.T.Item.reading c.args.turns c.args.class) turns turn.source) one_more
    ∙ items-more g.T.Item.begins (g.T.Item.reading c.args.turns c.args.class) left turn.source c.read.new.source c.take_word.new.self _ _ (search rules) c.in_ok-read.ensures.given c.in-Some.ensures)
