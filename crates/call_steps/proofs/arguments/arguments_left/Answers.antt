use Rattle.std.proofs.Common.{Box, length, ap, ◌∙◌, arith}
use Rattle.std.specs.declared.alloc.Global.{Global}
use Rattle.stmt_meaning.specs.Calls.{requested}
use Rattle.spec_table.specs.Tables.{table_spec}
use Rattle.step_data.specs.declared.calling.Calling.{Calling}
use Rattle.step_data.specs.declared.calling.Requesting.{Requesting}
use Rattle.step_data.specs.Callings.{calling_of}
use Rattle.call_steps.proofs.Coming.{at_locals}
use Rattle.call_steps.proofs.Items.{at_these}
use Rattle.call_steps.proofs.Passing.{asks_next, asked_last}
use Rattle.call_steps.proofs.arguments.arguments_left.Goals as goal

pub returns-in-Asks-clause-same : goal.returns-in-Asks-clause-same
returns-in-Asks-clause-same c =
    let spec = table_spec c.args.table.now in
    at_these spec c.next_tried.new.locals.items c.fit.result _ _ c.fit.ensures.same
    (asks_next spec c.args.requesting.value c.deref-in-loop-index.result.now c.loop-index.index c.deref-in-loop-index.ensures
    c.loop-index.locals.items c.next_tried.new.locals.items c.in_ok-tried.place c.in_ok-tried.tried c.in-Asks.here c.in-Asks.tree c.in-Asks.inner _ c.in-Asks.is
    c.in_ok-tried.ensures c.loop-index.invariant.same)

pub returns-clause-same : goal.returns-clause-same
returns-clause-same c =
    let spec = table_spec c.args.table.now in
    let locals = c.loop-index.locals.items in
    at_locals spec locals c.requested.result (requested spec (calling_of c.into_call.result.value)) _ c.requested.ensures.same
    (ap (λ (b : Box Calling Global). requested spec (calling_of b.value) locals) c.into_call.ensures
    ∙ asked_last spec c.args.requesting.value c.into_inner.result c.loop-index.index c.into_inner.ensures locals _
    (omega (arith, c.loop-index-test.false, c.loop-index.auto.index-end, c.len-index-end.ensures, ap (λ (r : Requesting). length r.places.items) c.deref.ensures))
    c.loop-index.invariant.same)
