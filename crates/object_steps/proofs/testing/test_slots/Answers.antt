use Rattle.std.proofs.Common.{length, refl, ap, ◌∙◌, arith}
use Rattle.spec_table.specs.Tables.{table_spec}
use Rattle.step_data.specs.declared.making.Creating.{Creating}
use Rattle.step_data.specs.declared.making.Making.{Making}
use Rattle.call_steps.proofs.Items.{at_these}
use Rattle.object_steps.proofs.Fitting.{asks_next, fails_next, left_last, passes_next}
use Rattle.object_steps.proofs.testing.test_slots.Goals as goal

pub returns-in-Asks-clause-same : goal.returns-in-Asks-clause-same
returns-in-Asks-clause-same c =
    let spec = table_spec c.args.table.now in
    at_these spec c.next_tried.new.locals.items c.fit.result _ _ c.fit.ensures.same
    (asks_next spec c.args.making.value c.deref-in-loop-index.result.now c.loop-index.index c.deref-in-loop-index.ensures
    c.loop-index.locals.items c.next_tried.new.locals.items c.in_ok-next_tried.field-0 c.in-Asks.here c.in-Asks.tree c.in-Asks.inner _ c.in-Asks.is
    c.in_ok-next_tried.ensures c.loop-index.invariant.same)

pub returns-in-Fails-clause-same : goal.returns-in-Fails-clause-same
returns-in-Fails-clause-same c =
    fails_next (table_spec c.args.table.now) c.args.making.value c.deref-in-loop-index.result.now c.loop-index.index c.deref-in-loop-index.ensures
    c.loop-index.locals.items c.next_tried.new.locals.items c.in_ok-next_tried.field-0 c.in-Fails.fault c.deref-in-Fails-2.result.now.place _
    c.in-Fails.is c.in_ok-next_tried.ensures c.loop-index.invariant.same
    (ap (λ (o : Creating). o.place) c.deref-in-Fails-2.ensures ∙ ap (λ (m : Making). m.object.value.place) c.deref-in-Fails.ensures)

pub loop-index-preserved : goal.loop-index-preserved
loop-index-preserved c = record {
  same = passes_next (table_spec c.args.table.now) c.args.making.value c.deref-in-loop-index.result.now c.loop-index.index c.deref-in-loop-index.ensures
      c.loop-index.locals.items c.next_tried.new.locals.items c.in_ok-next_tried.field-0 _ c.in-Passes.is c.in_ok-next_tried.ensures c.loop-index.invariant.same;
}

pub returns-clause-same : goal.returns-clause-same
returns-clause-same c =
    left_last (table_spec c.args.table.now) c.args.making.value c.args.making.value c.loop-index.index refl
    c.loop-index.locals.items c.object_left.result _
    (omega (arith, c.loop-index-test.false, c.loop-index.auto.index-end, c.len-index-end.ensures, ap (λ (m : Making). length m.slots.items) c.deref.ensures))
    c.loop-index.invariant.same c.object_left.ensures.same
