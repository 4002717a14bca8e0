use Rattle.std.proofs.Common.{sym, ◌∙◌}
use Rattle.run_journal.specs.Parts.{object_part}
use Rattle.spec_table.specs.Tables.{table_spec}
use Rattle.vdm_legal.specs.State.{keeps_with}
use Rattle.plain_state.proofs.Kept.{guarded_keeps, unguarded}
use Rattle.plain_state.proofs.Results.{same_ok}
use Rattle.plain_state.proofs.keeping.keeps_with.Goals as goal

pub returns-in_default : goal.returns-in_default
returns-in_default c =
    sym (unguarded (table_spec c.args.table.now) (object_part c.args.object c.args.entries.now) c.args.writes.now (sym c.guarded_class.ensures ∙ c.in_default.is))

pub returns : goal.returns
returns c =
    let part = object_part c.args.object c.args.entries.now in
    same_ok c.keeps.result _ (keeps_with (table_spec c.args.table.now) part c.args.writes.now)
    (guarded_keeps (table_spec c.args.table.now) part c.args.writes.now c.in-Some.class c.object_variables-variables.result.now c.in_ok-held.held.variables.items
    (sym c.guarded_class.ensures ∙ c.in-Some.is) c.object_variables-variables.ensures c.in_ok-held.ensures)
    c.keeps.ensures
