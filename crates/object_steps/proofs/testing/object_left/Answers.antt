use Rattle.std.proofs.Common.{ap, ◌∙◌}
use Rattle.spec_table.specs.Tables.{table_spec}
use Rattle.step_data.specs.declared.making.Creating.{Creating}
use Rattle.step_data.specs.declared.making.Making.{Making}
use Rattle.object_steps.proofs.Fitting.{where_kept, where_broken}
use Rattle.object_steps.proofs.testing.object_left.Goals as goal

pub returns-then-branch-clause-same : goal.returns-then-branch-clause-same
returns-then-branch-clause-same c = λ locals.
    c.object_asked.ensures.same (table_spec c.args.table.now) locals
    ∙ where_kept (table_spec c.args.table.now) c.args.making.value c.deref.result.now c.deref.ensures c.in_ok-keeps_made.field-0
    c.in_ok-keeps_made.ensures c.if-branch.true locals

pub returns-clause-same : goal.returns-clause-same
returns-clause-same c =
    where_broken (table_spec c.args.table.now) c.args.making.value c.deref.result.now c.deref.ensures c.in_ok-keeps_made.field-0 c.in_ok-keeps_made.ensures
    c.deref-else-branch-2.result.now.place
    (ap (λ (o : Creating). o.place) c.deref-else-branch-2.ensures ∙ ap (λ (m : Making). m.object.value.place) c.deref-else-branch.ensures)
    c.if-branch.false
