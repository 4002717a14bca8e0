use Rattle.std.proofs.Common.{◌≡◌}
use Rattle.spec_table.specs.Tables.{table_spec}
use Rattle.search_steps.specs.Outcomes.{choices_from}
use Rattle.search_steps.proofs.passing.first_found.Given as goal

abbrev pub invariant-loop-turns : goal.invariant-loop-turns
invariant-loop-turns l =
    choices_from (table_spec l.table) l.search l.locals.items ≡ choices_from (table_spec l.table) l.fn.search l.fn.locals.items
