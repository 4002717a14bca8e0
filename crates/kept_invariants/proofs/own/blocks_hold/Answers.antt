use Rattle.std.proofs.Common.{refl, arith}
use Rattle.spec_table.specs.Tables.{table_spec}
use Rattle.kept_invariants.proofs.Conditions.{blocks_hold, block_holds, next_block}
use Rattle.kept_invariants.proofs.Rounds.{stops, goes_on, ended}
use Rattle.kept_invariants.proofs.own.blocks_hold.Goals as goal

pub returns-then-not-branch : goal.returns-then-not-branch
returns-then-not-branch c =
    let spec = table_spec c.args.table.now in
    stops (blocks_hold spec c.args.env.now) (block_holds spec c.args.env.now) (next_block spec c.args.env.now)
    c.args.blocks.now c.loop-block.block-index c.block-item.result c.block-item.result c.loop-block-test.true c.block-item.is c.loop-block.invariant
    _ c.in_ok-block_holds.ensures c.if-not-branch.true

pub loop-block-preserved : goal.loop-block-preserved
loop-block-preserved c =
    let spec = table_spec c.args.table.now in
    goes_on (blocks_hold spec c.args.env.now) (block_holds spec c.args.env.now) (next_block spec c.args.env.now)
    c.args.blocks.now c.loop-block.block-index c.block-item.result c.block-item.result c.loop-block-test.true c.block-item.is c.loop-block.invariant
    _ c.in_ok-block_holds.ensures c.if-not-branch.false

pub returns : goal.returns
returns c =
    let spec = table_spec c.args.table.now in
    ended (blocks_hold spec c.args.env.now) (block_holds spec c.args.env.now) (next_block spec c.args.env.now)
    c.args.blocks.now c.loop-block.block-index refl (omega (arith, c.loop-block-test.false)) c.loop-block.invariant
