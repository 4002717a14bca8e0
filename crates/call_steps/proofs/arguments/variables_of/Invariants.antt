use Rattle.std.proofs.Common.{◌≡◌, ◌++◌, map, drop}
use Rattle.stmt_meaning.specs.Olds.{olds_of}
use Rattle.spec_table.specs.Tables.{table_spec}
use Rattle.step_data.specs.Callings.{old_view}
use Rattle.call_steps.proofs.arguments.variables_of.Given as goal

-- those so far, and what the names that are left mean
abbrev pub invariant-loop-name : goal.invariant-loop-name
invariant-loop-name l =
    map old_view l.olds.items ++ olds_of (table_spec l.table) l.me l.class (drop l.name-index l.names) ≡ olds_of (table_spec l.table) l.me l.class l.names
