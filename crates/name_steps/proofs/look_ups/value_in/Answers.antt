use Rattle.std.proofs.Common.{ap, sym, ◌∙◌}
use Rattle.node_meaning.specs.Names.{value_in}
use Rattle.spec_table.specs.Tables.{table_spec}
use Rattle.name_steps.proofs.LookUps.{value_found_in}
use Rattle.name_steps.proofs.look_ups.value_in.Goals as goal

pub returns-in-Some : goal.returns-in-Some
returns-in-Some c =
    c.one_variable.ensures ∙
    value_found_in (table_spec c.args.table.now) c.in-Some.class c.args.name c.find_value.result c.find_value.ensures.some c.find_value.ensures.none ∙
    ap (λ scope. value_in (table_spec c.args.table.now) scope c.args.name) (sym c.in-Some.is)
