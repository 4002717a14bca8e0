use Rattle.std.proofs.Common.{ap, sym, ◌∙◌}
use Rattle.spec_table.specs.Tables.{table_spec}
use Rattle.plans.specs.Plans.{bind}
use Rattle.node_meaning.specs.Tasks.{with_value}
use Rattle.stmt_meaning.specs.Questions.{of_thread}
use Rattle.stmt_meaning.specs.Targets.{goal_typed}
use Rattle.eval_data.specs.Parts.{here_of}
use Rattle.fit_steps.specs.Tests.{tested_code}
use Rattle.step_data.specs.declared.assigning.Assigning.{Assigning}
use Rattle.step_data.specs.Goals.{goal_view, kept_with}
use Rattle.goal_steps.proofs.Moving.{moved}
use Rattle.goal_steps.proofs.keeping.value_tested.Goals as goal

pub returns-clause-same : goal.returns-clause-same
returns-clause-same c =
    let spec = table_spec c.args.table.now in
    let a = c.args.assigning.value in
    let kept = kept_with spec a in
    let tested = c.in_ok-tested.tested in
    let between = c.goal_tested.new.locals.items in
    moved c.value_decided.new.locals.items c.value_decided.result spec
    (bind (tested_code (of_thread spec) a.place between tested) (with_value a.place kept))
    (goal_typed spec (here_of a.here) a.place (goal_view a.goal) kept c.args.value c.args.locals.now.items)
    c.value_decided.ensures.same
    (ap (λ (e : Assigning). bind (tested_code (of_thread spec) e.place between tested) (with_value e.place kept)) (sym c.deref-3.ensures)
    ∙ c.in_ok-tested.ensures kept
    ∙ (λ i. goal_typed spec (here_of (c.deref.ensures i).here) (c.deref-3.ensures i).place (goal_view (c.deref-2.ensures i).goal) kept c.args.value c.args.locals.now.items))
