use Rattle.vdm_tree.specs.StmtView.{maybe_stmt}
use Rattle.spec_table.specs.Tables.{table_spec}
use Rattle.stmt_meaning.specs.Blocks.{alternatives}
use Rattle.eval_data.specs.Parts.{here_of}
use Rattle.step_data.specs.Meetings.{cases_left}
use Rattle.meet_steps.specs.Onwards.{onward_code}
use Rattle.meet_steps.proofs.Coming.{value_came}
use Rattle.meet_steps.proofs.Moving.{moved}
use Rattle.meet_steps.proofs.choices.alternatives.Goals as goal

pub returns-in-Is-clause-same : goal.returns-in-Is-clause-same
returns-in-Is-clause-same c =
    let spec = table_spec c.args.table.now in
    let locals = c.args.locals.now.items in
    let after = c.followed.new.locals.items in
    let plan = alternatives spec (here_of c.args.here) c.args.place c.args.count (cases_left c.args.cases.now) (maybe_stmt c.args.others.now) in
    value_came c.value_in.result c.args.flow c.in-Is.value c.in-Is.is c.value_in.ensures spec c.args.place plan locals after c.followed.result
    (moved spec after c.followed.result (onward_code spec locals c.first_case-onward.result) (plan c.in-Is.value locals)
    c.followed.ensures.same (c.first_case-onward.ensures.same spec locals))
