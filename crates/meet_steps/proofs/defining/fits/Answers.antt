use Rattle.std.proofs.Common.{ap, ◌∙◌}
use Rattle.spec_table.specs.Tables.{table_spec}
use Rattle.step_data.specs.declared.meeting.Defining.{Defining}
use Rattle.step_data.specs.Meetings.{defined_meets, meets_value}
use Rattle.meet_steps.proofs.Moving.{moved}
use Rattle.meet_steps.proofs.defining.fits.Goals as goal

pub returns-clause-same : goal.returns-clause-same
returns-clause-same c =
    let spec = table_spec c.args.table.now in
    let locals = c.args.locals.now.items in
    moved spec c.meets.new.locals.items c.meets.result (meets_value spec c.meeting_of-meeting.result locals) (defined_meets spec c.args.defining.value c.args.value locals)
    c.meets.ensures.same
    (c.meeting_of-meeting.ensures spec locals ∙ ap (λ (d : Defining). defined_meets spec d c.args.value locals) c.deref.ensures)
