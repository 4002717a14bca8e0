use Rattle.expr_tree.specs.View.{maybe_view}
use Rattle.check_steps.specs.Below.check_scopes.specs.Told.{first_in}
use Rattle.check_steps.specs.Below.check_frames.specs.Meant.{scope_here}
use Rattle.check_steps.specs.Below.check_frames.specs.Steps.{told_next, told_onward}
use Rattle.check_steps.specs.Firsts.{first_and_rest}
use Rattle.check_steps.specs.Listed.{cases_first, cases_none}
use Rattle.check_series.proofs.cases.cases_next.Goals as goal

pub returns-in-empty : goal.returns-in-empty
returns-in-empty c =
    told_next c.args.here.setting c.others_next.result (first_in c.args.refusals.now) _ _ (cases_none c.args.here.setting (scope_here c.args.here) c.args.all.form c.args.known c.args.all.cases.now (maybe_view c.args.all.others.now) c.in-empty.len_below) c.others_next.ensures

pub returns-in-len1-up : goal.returns-in-len1-up
returns-in-len1-up c =
    told_onward c.args.here.setting c.case_next.result (first_in c.args.refusals.now) (first_in c.case_next.new.refusals) _ _
    (cases_first c.args.here.setting (scope_here c.args.here) c.args.known c.args.all.cases.now c.case-item.result _ (first_and_rest c.args.all.cases.now c.case-item.result c.in-len1-up.len_at_least c.case-item.is))
    c.case_next.ensures
