use Rattle.std.proofs.Common.{ap, sym, ◌∙◌}
use Rattle.stmt_meaning.specs.Keeping.{holding_of, keeps}
use Rattle.spec_table.specs.Tables.{table_spec}
use Rattle.step_data.specs.declared.making.Creating.{Creating}
use Rattle.kept_invariants.proofs.NoneToKeep.{none_to_keep}
use Rattle.object_steps.proofs.keeping.keeps_made.Goals as goal

pub returns-then-not-has_invariants : goal.returns-then-not-has_invariants
returns-then-not-has_invariants c =
    let spec = table_spec c.args.table.now in
    let m = c.args.making.now in
    sym (ap (λ (o : Creating). keeps spec o.class (holding_of m.variables.now m.slots.items)) (sym c.deref.ensures)
    ∙ none_to_keep spec c.deref.result.now.class (holding_of m.variables.now m.slots.items) (sym c.has_invariants.ensures ∙ c.if-not-has_invariants.true))
