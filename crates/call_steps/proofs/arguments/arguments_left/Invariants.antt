use Rattle.std.proofs.Common.{◌≡◌}
use Rattle.spec_table.specs.Tables.{table_spec}
use Rattle.step_data.specs.Callings.{arguments_left}
use Rattle.call_steps.proofs.arguments.arguments_left.Given as goal

-- the arguments that are left do what those of the whole do
abbrev pub invariant-loop-index : goal.invariant-loop-index
invariant-loop-index l = record {
  same : arguments_left (table_spec l.table) l.requesting.value l.index l.locals.items ≡ arguments_left (table_spec l.table) l.requesting.value l.tested l.fn.locals.items;
}
