use Rattle.spec_table.specs.Tables.{table_spec}
use Rattle.node_meaning.specs.Matching.{exprs_of}
use Rattle.node_meaning.specs.Strict.{with_others}
use Rattle.stmt_meaning.specs.Targets.{goal_changed}
use Rattle.eval_data.specs.Parts.{here_of}
use Rattle.step_data.specs.Goals.{exprs_left, goal_view, kept_with, steps_of}
use Rattle.goal_steps.proofs.Coming.{value_came}
use Rattle.goal_steps.proofs.indexing.index_came.Goals as goal

pub returns-in-Is-clause-same : goal.returns-in-Is-clause-same
returns-in-Is-clause-same c =
    let spec = table_spec c.args.table.now in
    let a = c.args.assigning.value in
    value_came c.value_in.result c.args.flow c.in-Is.value c.in-Is.is c.value_in.ensures spec a.place
    (with_others (here_of a.here) a.place (exprs_of (exprs_left a)) a.done.items (goal_changed spec (here_of a.here) a.place (goal_view a.goal) (steps_of a) (kept_with spec a)))
    c.args.locals.now.items c.index_given.new.locals.items c.index_given.result c.index_given.ensures.same
