use Rattle.std.proofs.Common.{ap, sym, ◌∙◌}
use Rattle.node_meaning.specs.Names.{function_in}
use Rattle.spec_table.specs.Tables.{table_spec}
use Rattle.name_steps.proofs.LookUps.{function_found_in}
use Rattle.name_steps.proofs.look_ups.function_in.Goals as goal

pub returns-in-Some : goal.returns-in-Some
returns-in-Some c =
    c.one_operation.ensures ∙
    function_found_in (table_spec c.args.table.now) c.in-Some.class c.args.name c.args.arity c.find_fn.result c.find_fn.ensures.some c.find_fn.ensures.none ∙
    ap (λ scope. function_in (table_spec c.args.table.now) scope c.args.name c.args.arity) (sym c.in-Some.is)
