use Rattle.eval_data.specs.Steps.{matched, missed}
use Rattle.spec_table.specs.Tables.{table_spec}
use Rattle.match_steps.proofs.Handed.{handed}
use Rattle.match_steps.proofs.meeting.met_with.Goals as goal

pub returns : goal.returns
returns c =
    let spec = table_spec c.args.table.now in
    handed c.answered.result spec c.answered.new.locals.items _ _
    (c.in_ok-attempt.ensures c.args.place (matched spec c.args.met c.args.place) (missed spec c.args.met c.args.place c.args.value))
    c.answered.ensures
