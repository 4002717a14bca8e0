use Rattle.std.proofs.Common.{ap, ◌∙◌}
use Rattle.eval_data.specs.declared.frame.Frame.TheVariants.{Cut}
use Rattle.eval_data.specs.declared.test_part.TestPart.{TestPart}
use Rattle.spec_table.specs.Tables.{table_spec}
use Rattle.step_data.specs.declared.waiting.Waiting.TheVariants.{Expr}
use Rattle.step_data.specs.Actions.{nested}
use Rattle.thread_stack.proofs.Standings.{for_code, test_so}
use Rattle.thread_stack.proofs.stack.Stack.test.Goals as goal

pub returns-clause-same : goal.returns-clause-same
returns-clause-same c =
    let s = c.args.self.now in
    let spec = table_spec s.table.now in
    let locals = s.locals.items in
    let inner = c.take_inner.result in
    let outer = c.take_outer.result in
    for_code c.nested.new.self spec s.levels.items s.fuel s.around c.nested.result _ _ c.nested.ensures.same
    (ap (λ (t : TestPart). nested spec locals t.here c.deref-2.result.now.tree inner (Expr outer)) c.deref.ensures
    ∙ ap (λ (t : TestPart). nested spec locals c.take_outer.new.self.here t.tree inner (Expr outer)) c.deref-2.ensures
    ∙ test_so spec locals c.args.test.value c.take_inner.new.self c.take_outer.new.self inner outer
    (c.take_inner.ensures.taken ∙ ap (λ (t : TestPart). t.inner) c.deref_mut.ensures.value)
    (c.take_inner.ensures.left ∙ ap (λ (t : TestPart). record t { inner = Cut 0 }) c.deref_mut.ensures.value)
    (c.take_outer.ensures.taken ∙ ap (λ (t : TestPart). t.outer) c.deref_mut-2.ensures.value)
    (c.take_outer.ensures.left ∙ ap (λ (t : TestPart). record t { outer = Cut 0 }) c.deref_mut-2.ensures.value))
