use Rattle.std.proofs.Common.{◌≡◌}
use Rattle.spec_table.specs.Tables.{table_spec}
use Rattle.eval_data.specs.Steps.{fields_left}
use Rattle.record_steps.proofs.made.fields_left.Given as goal

-- what is left is what was left
abbrev pub invariant-loop-turn : goal.invariant-loop-turn
invariant-loop-turn l =
    fields_left (table_spec l.fn.table) l.filling l.fn.place l.locals.items ≡ fields_left (table_spec l.fn.table) l.fn.filling l.fn.place l.fn.locals.items
