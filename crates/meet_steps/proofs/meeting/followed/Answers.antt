use Rattle.std.proofs.Common.{ap, sym}
use Rattle.spec_table.specs.Tables.{table_spec}
use Rattle.step_data.specs.Meetings.{meets_value}
use Rattle.meet_steps.specs.Onwards.{onward_code}
use Rattle.meet_steps.proofs.Moving.{moved}
use Rattle.meet_steps.proofs.meeting.followed.Goals as goal

pub returns-in-Meets-clause-same : goal.returns-in-Meets-clause-same
returns-in-Meets-clause-same c =
    let spec = table_spec c.args.table.now in
    let locals = c.args.locals.now.items in
    moved spec c.meets.new.locals.items c.meets.result (meets_value spec c.in-Meets.meeting locals) (onward_code spec locals c.args.onward)
    c.meets.ensures.same (ap (onward_code spec locals) (sym c.in-Meets.is))
