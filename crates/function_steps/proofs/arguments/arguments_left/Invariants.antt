use Rattle.std.proofs.Common.{◌≡◌}
use Rattle.spec_table.specs.Tables.{table_spec}
use Rattle.eval_data.specs.Steps.{arguments_left}
use Rattle.function_steps.proofs.arguments.arguments_left.Given as goal

-- what is left is what was left
abbrev pub invariant-loop-turn : goal.invariant-loop-turn
invariant-loop-turn l =
    arguments_left (table_spec l.fn.table) l.passing l.locals.items ≡ arguments_left (table_spec l.fn.table) l.fn.passing l.fn.locals.items
