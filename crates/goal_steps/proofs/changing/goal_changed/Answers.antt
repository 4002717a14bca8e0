use Rattle.std.proofs.Common.{ap, sym, ◌∙◌}
use Rattle.spec_table.specs.Tables.{table_spec}
use Rattle.node_meaning.specs.Envs.{local_named}
use Rattle.stmt_meaning.specs.Targets.{local_read}
use Rattle.step_data.specs.declared.assigning.Assigning.{Assigning}
use Rattle.step_data.specs.Goals.{old_changed}
use Rattle.goal_steps.proofs.Moving.{moved}
use Rattle.goal_steps.proofs.Olds.{changed_part, of_local, of_variable}
use Rattle.goal_steps.proofs.changing.goal_changed.Goals as goal

pub returns-in-Local-clause-same : goal.returns-in-Local-clause-same
returns-in-Local-clause-same c =
    let spec = table_spec c.args.table.now in
    let a = c.args.assigning.value in
    let locals = c.args.locals.now.items in
    moved c.local_changed.new.locals.items c.local_changed.result spec (local_read a.place (old_changed spec a) (local_named locals c.in-Local.name) locals)
    (changed_part spec a locals) c.local_changed.ensures.same
    (of_local spec a locals c.in-Local.name c.in-Local.field-1 (ap (λ (e : Assigning). e.goal) (sym c.deref.ensures) ∙ c.in-Local.is))

pub returns-in-Variable-clause-same : goal.returns-in-Variable-clause-same
returns-in-Variable-clause-same c =
    of_variable (table_spec c.args.table.now) c.args.assigning.value c.args.locals.now.items c.in-Variable.me c.in-Variable.var c.in-Variable.field-2
    (ap (λ (e : Assigning). e.goal) (sym c.deref.ensures) ∙ c.in-Variable.is)
