use Rattle.expr_tree.specs.View.{view_of}
use Rattle.spec_table.specs.Tables.{table_spec}
use Rattle.stmt_exec.specs.Standing.{rest, rank}
use Rattle.plain_state.specs.Entered.{journal}
use Rattle.plain_run.specs.Turns.{GoesOn}
use Rattle.plain_run.proofs.ran.take_turns.Given as goal

abbrev pub invariant-turns : goal.invariant-turns
invariant-turns l = GoesOn l.names (table_spec l.table) (view_of l.tree) l.steps (journal l.store) (rest l.machine)

abbrev pub decreases-turns : goal.decreases-turns
decreases-turns l = rank l.machine
