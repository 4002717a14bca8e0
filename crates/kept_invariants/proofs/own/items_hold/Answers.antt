use Rattle.std.proofs.Common.{refl, arith}
use Rattle.spec_table.specs.Tables.{table_spec}
use Rattle.kept_invariants.proofs.Conditions.{items_hold, one_holds, next_item}
use Rattle.kept_invariants.proofs.Rounds.{stops, goes_on, ended}
use Rattle.kept_invariants.proofs.own.items_hold.Goals as goal

pub returns-then-not-branch : goal.returns-then-not-branch
returns-then-not-branch c =
    let spec = table_spec c.args.table.now in
    stops (items_hold spec c.args.env.now) (one_holds spec c.args.env.now) (next_item spec c.args.env.now)
    c.args.items.now c.loop-item.item-index c.item-item.result c.item-item.result c.loop-item-test.true c.item-item.is c.loop-item.invariant
    _ c.in_ok-item_holds.ensures c.if-not-branch.true

pub loop-item-preserved : goal.loop-item-preserved
loop-item-preserved c =
    let spec = table_spec c.args.table.now in
    goes_on (items_hold spec c.args.env.now) (one_holds spec c.args.env.now) (next_item spec c.args.env.now)
    c.args.items.now c.loop-item.item-index c.item-item.result c.item-item.result c.loop-item-test.true c.item-item.is c.loop-item.invariant
    _ c.in_ok-item_holds.ensures c.if-not-branch.false

pub returns : goal.returns
returns c =
    let spec = table_spec c.args.table.now in
    ended (items_hold spec c.args.env.now) (one_holds spec c.args.env.now) (next_item spec c.args.env.now)
    c.args.items.now c.loop-item.item-index refl (omega (arith, c.loop-item-test.false)) c.loop-item.invariant
