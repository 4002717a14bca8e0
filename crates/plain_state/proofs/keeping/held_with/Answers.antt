use Rattle.std.proofs.Common.{arith}
use Rattle.run_journal.specs.Parts.{object_part}
use Rattle.spec_table.specs.Tables.{table_spec}
use Rattle.plain_state.proofs.Kept.{all_held, one_more}
use Rattle.plain_state.proofs.keeping.held_with.Goals as goal

pub loop-var-preserved : goal.loop-var-preserved
loop-var-preserved c =
    one_more (table_spec c.args.table.now) (object_part c.args.object c.args.entries.now) c.args.writes.now c.args.variables.now c.loop-var.var-index c.loop-var.held.items c.loop-var.invariant
    _ _ c.in_ok-slot_with.field-0 c.push.new.self.items c.loop-var-test.true c.held_by-before.ensures c.in_ok-slot_with.ensures c.in_ok-push.ensures.items

pub returns : goal.returns
returns c =
    all_held (table_spec c.args.table.now) (object_part c.args.object c.args.entries.now) c.args.writes.now c.args.variables.now c.loop-var.var-index c.loop-var.held.items c.loop-var.invariant
    (omega (arith, c.loop-var-test.false))
