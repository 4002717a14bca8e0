use Rattle.std.proofs.Common.{Some}
use Rattle.spec_table.specs.Tables.{table_spec}
use Rattle.type_tree.specs.TypeView.{type_view}
use Rattle.eval_data.specs.Parts.{nest_of}
use Rattle.goal_steps.proofs.Fitting.{used_tested}
use Rattle.goal_steps.proofs.testing.goal_tested.Goals as goal

pub returns-in-Local : goal.returns-in-Local
returns-in-Local c =
    rw c.in-Local.is (used_tested (table_spec c.args.table.now) (nest_of c.none-nest.result) c.args.here.scope (type_view c.in-Local.declared.now) c.args.place c.args.value
    c.args.locals.now.items c.fitted.new.locals.items c.none-nest.ensures c.fitted.result c.fitted.ensures)

pub returns-in-Variable : goal.returns-in-Variable
returns-in-Variable c =
    rw c.in-Variable.is (used_tested (table_spec c.args.table.now) (nest_of c.none-nest.result) (Some c.in-Variable.var.class) (type_view c.in-Variable.declared.now) c.args.place c.args.value
    c.args.locals.now.items c.fitted-in-Variable.new.locals.items c.none-nest.ensures c.fitted-in-Variable.result c.fitted-in-Variable.ensures)
