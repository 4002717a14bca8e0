use Rattle.spec_table.specs.Tables.{table_spec}
use Rattle.node_meaning.specs.Matching.{exprs_of}
use Rattle.node_meaning.specs.Strict.{with_others}
use Rattle.eval_data.specs.Parts.{here_of}
use Rattle.step_data.specs.Meetings.{met_value}
use Rattle.meet_steps.proofs.Waits.{brackets_left}
use Rattle.meet_steps.proofs.Coming.{value_came}
use Rattle.meet_steps.proofs.meeting.given.Goals as goal

pub returns-in-Is-clause-same : goal.returns-in-Is-clause-same
returns-in-Is-clause-same c =
    let spec = table_spec c.args.table.now in
    let g = c.args.given.value in
    value_came c.value_in.result c.args.flow c.in-Is.value c.in-Is.is c.value_in.ensures spec g.meeting.place
    (with_others (here_of g.meeting.here) g.meeting.place (exprs_of (brackets_left g)) g.given.items (met_value spec g.meeting)) c.args.locals.now.items c.bracket_came.new.locals.items c.bracket_came.result c.bracket_came.ensures.same
