use Rattle.expr_tree.specs.View.{view_of}
use Rattle.spec_table.specs.Tables.{table_spec}
use Rattle.stmt_exec.specs.Standing.{rest}
use Rattle.plain_judge.proofs.Staying.{first-stays}
use Rattle.plain_judge.proofs.standing.next_question.Goals as goal

pub standing_after-requires : goal.standing_after-requires
standing_after-requires c =
    first-stays c.args.names.now (table_spec c.args.table.now) (view_of c.args.tree.now) c.args.units (rest c.in_ok-machine.machine) c.in_ok-machine.ensures
