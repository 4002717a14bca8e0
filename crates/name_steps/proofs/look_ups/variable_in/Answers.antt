use Rattle.std.proofs.Common.{ap, sym, ◌∙◌}
use Rattle.node_meaning.specs.Names.{variable_in}
use Rattle.spec_table.specs.Tables.{table_spec}
use Rattle.name_steps.proofs.LookUps.{variable_found_in}
use Rattle.name_steps.proofs.look_ups.variable_in.Goals as goal

pub returns-in-Some : goal.returns-in-Some
returns-in-Some c =
    c.one_variable.ensures ∙
    variable_found_in (table_spec c.args.table.now) c.in-Some.class c.args.name c.find_var.result c.find_var.ensures.some c.find_var.ensures.none ∙
    ap (λ scope. variable_in (table_spec c.args.table.now) scope c.args.name) (sym c.in-Some.is)
