use Rattle.std.proofs.Common.{length, ap, arith}
use Rattle.spec_table.specs.Tables.{table_spec}
use Rattle.step_data.specs.declared.class_making.ClassMaking.{ClassMaking}
use Rattle.main_steps.proofs.Numbers.{part_low}
use Rattle.main_steps.proofs.Fitting.{asks_next, asked_last, at_these}
use Rattle.main_steps.proofs.testing.test_statics.Goals as goal

pub returns-in-Asks-clause-same : goal.returns-in-Asks-clause-same
returns-in-Asks-clause-same c =
    let spec = table_spec c.args.table.now in
    at_these spec c.next_tried.new.locals.items c.fit.result _ _ c.fit.ensures.same
    (asks_next spec c.args.making.value c.deref-in-loop-index.result.now c.loop-index.index c.deref-in-loop-index.ensures
    c.next_tried.new.locals.items c.in_ok-next_tried.field-0 c.in-Asks.here c.in-Asks.tree c.in-Asks.inner c.in-Asks.place _ c.in-Asks.is
    c.in_ok-next_tried.ensures c.loop-index.invariant.same)

pub returns-in-Asks-clause-falls : goal.returns-in-Asks-clause-falls
returns-in-Asks-clause-falls c = part_low c.fit.result c.args.making.value.object c.fit.ensures.falls

pub returns-clause-same : goal.returns-clause-same
returns-clause-same c =
    asked_last (table_spec c.args.table.now) c.args.making.value c.loop-index.index _
    (omega (arith, c.loop-index-test.false, c.loop-index.auto.index-end, c.len-index-end.ensures, ap (λ (m : ClassMaking). length m.slots.items) c.deref.ensures))
    c.loop-index.invariant.same
