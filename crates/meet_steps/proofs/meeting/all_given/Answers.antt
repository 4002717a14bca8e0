use Rattle.std.proofs.Common.{Vec, Global, ap, ◌∙◌}
use Rattle.abstract_syntax.specs.Values.{ValueTree}
use Rattle.spec_table.specs.Tables.{table_spec}
use Rattle.step_data.specs.declared.meeting.Given.{Given}
use Rattle.step_data.specs.declared.meeting.Meeting.{Meeting}
use Rattle.step_data.specs.Meetings.{met_value}
use Rattle.meet_steps.specs.Onwards.{onward_code}
use Rattle.meet_steps.proofs.Moving.{moved}
use Rattle.meet_steps.proofs.meeting.all_given.Goals as goal

pub returns-clause-same : goal.returns-clause-same
returns-clause-same c =
    let spec = table_spec c.args.table.now in
    let locals = c.args.locals.now.items in
    let g = c.args.given.value in
    moved spec c.followed.new.locals.items c.followed.result (onward_code spec c.met.new.locals.items c.in_ok-onward.onward) (met_value spec g.meeting g.given.items locals)
    c.followed.ensures.same
    (c.in_ok-onward.ensures.same
    ∙ ap (λ (p : Meeting × Vec ValueTree Global). met_value spec p.0 p.1.items locals) c.into_parts-meeting.ensures
    ∙ ap (λ (h : Given). met_value spec h.meeting h.given.items locals) c.into_inner.ensures)
