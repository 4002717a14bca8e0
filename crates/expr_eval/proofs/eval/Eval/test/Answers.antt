use Rattle.std.proofs.Common.{ap, sym, ◌∙◌}
use Rattle.eval_data.specs.declared.frame.Frame.TheVariants.{Cut}
use Rattle.eval_data.specs.declared.step.Step.TheVariants.{Part}
use Rattle.eval_data.specs.declared.test_part.TestPart.{TestPart}
use Rattle.expr_eval.specs.Evaluations.{of_evaluator, placed_code, stands}
use Rattle.spec_table.specs.Tables.{table_spec}
use Rattle.expr_eval.proofs.Running.{tested, tested-low}
use Rattle.expr_eval.proofs.eval.Eval.test.Goals as goal

pub returns-clause-same : goal.returns-clause-same
returns-clause-same c = λ answers units.
    let e = c.args.self.now in
    let spec = table_spec e.table.now in
    ap (λ (t : TestPart). stands spec e.place c.push.new.self.items (placed_code (of_evaluator spec) c.args.nest e.locals.items (Part t.here c.deref-2.result.now.tree c.take_inner-inner.result)) answers units) c.deref.ensures
    ∙ ap (λ (t : TestPart). stands spec e.place c.push.new.self.items (placed_code (of_evaluator spec) c.args.nest e.locals.items (Part c.take_inner-inner.new.self.here t.tree c.take_inner-inner.result)) answers units) c.deref-2.ensures
    ∙ tested spec e.place e.frames.items c.push.new.self.items c.args.nest e.locals.items c.args.test.value c.take_outer-frame.new.self c.take_inner-inner.new.self
    c.take_inner-inner.result c.take_outer-frame.result answers units
    (c.take_outer-frame.ensures.taken ∙ ap (λ (t : TestPart). t.outer) c.deref_mut.ensures.value)
    (c.take_outer-frame.ensures.left ∙ ap (λ (t : TestPart). record t { outer = Cut 0 }) c.deref_mut.ensures.value)
    (c.take_inner-inner.ensures.taken ∙ ap (λ (t : TestPart). t.inner) c.deref_mut-2.ensures.value)
    (c.take_inner-inner.ensures.left ∙ ap (λ (t : TestPart). record t { inner = Cut 0 }) c.deref_mut-2.ensures.value)
    c.in_ok-push.ensures.items

pub returns-clause-falls : goal.returns-clause-falls
returns-clause-falls c = λ units. tested-low c.args.self.now.frames.items c.push.new.self.items _ units c.in_ok-push.ensures.items
