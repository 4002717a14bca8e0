use Rattle.std.proofs.Common.{◌≡◌, suc, ◌+◌, ◌-◌, ap, ◌∙◌, arith}
use Rattle.vdm_tree.specs.ClassView.{block_view}
use Rattle.stmt_reading.specs.Classes.{blocks_in}
use Rattle.definition_parts.proofs.Lists.{turn-end, turn-more}
use Rattle.class_builder.proofs.Turns.{blocks-end, blocks-more}
use Rattle.class_builder.proofs.blocks.read_blocks.Goals as goal

pub returns-in-Some : goal.returns-in-Some
returns-in-Some c =
    let turn = c.loop-turn in
    record { given = turn-end block_view _ turn.blocks.items _ turn.invariant c.take_word.new.self (blocks-end c.args.class (c.args.turns - turn._turn) turn.source c.take_word.new.self _ (omega arith) c.in-Some.ensures); refused = λ e. cc }

pub loop-turn-preserved : goal.loop-turn-preserved
loop-turn-preserved c =
    let turn = c.loop-turn in
    let left = c.args.turns - (turn._turn + 1) in
    let one_more : c.args.turns - turn._turn ≡ suc left = omega arith in
    turn-more block_view _ turn.blocks.items _ turn.invariant _ c.push.new.self.items _ c.in_ok-push.ensures.items
    (ap (λ turns. blocks_in c.args.class turns turn.source) one_more
    ∙ blocks-more c.args.class left turn.source c.take_word.new.self c.read_block.new.source _ c.in_default.ensures.0 c.in_default.ensures.1 c.in_ok-read_block.ensures.given)
