use Rattle.std.proofs.Common.{ap, sym, ◌∙◌}
use Rattle.node_meaning.specs.Names.{operation_in}
use Rattle.spec_table.specs.Tables.{table_spec}
use Rattle.name_steps.proofs.LookUps.{operation_found_in}
use Rattle.name_steps.proofs.look_ups.operation_in.Goals as goal

pub returns-in-Some : goal.returns-in-Some
returns-in-Some c =
    c.one_operation.ensures ∙
    operation_found_in (table_spec c.args.table.now) c.in-Some.class c.args.name c.args.arity c.find_op.result c.find_op.ensures.some c.find_op.ensures.none ∙
    ap (λ scope. operation_in (table_spec c.args.table.now) scope c.args.name c.args.arity) (sym c.in-Some.is)
