use Rattle.spec_table.specs.Tables.{table_spec}
use Rattle.expr_tree.specs.View.{pattern_view}
use Rattle.vdm_tree.specs.StmtView.{boxed_stmt}
use Rattle.stmt_meaning.specs.Loops.{each_of_sequence}
use Rattle.eval_data.specs.Parts.{here_of}
use Rattle.meet_steps.proofs.Coming.{value_came}
use Rattle.meet_steps.proofs.elements.elements_of_sequence.Goals as goal

pub returns-in-Is-clause-same : goal.returns-in-Is-clause-same
returns-in-Is-clause-same c =
    let spec = table_spec c.args.table.now in
    value_came c.value_in.result c.args.flow c.in-Is.value c.in-Is.is c.value_in.ensures spec c.args.place
    (each_of_sequence spec (here_of c.args.here) c.args.place (pattern_view c.args.pattern.now.value) (boxed_stmt c.args.body.now)) c.args.locals.now.items c.in_sequence.new.locals.items c.in_sequence.result c.in_sequence.ensures.same
