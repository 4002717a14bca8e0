use Rattle.stmt_pending.specs.Below.check_scopes.specs.Told.{first_in}
use Rattle.stmt_exprs.specs.Below.check_steps.specs.Firsts.{first_and_rest}
use Rattle.stmt_pending.specs.Below.stmt_scopes.specs.Standing.{stands_here}
use Rattle.stmt_pending.specs.Steps.{next_onward, next_told}
use Rattle.stmt_chosen.proofs.Listed.{first_case, no_cases_left}
use Rattle.stmt_chosen.proofs.alternatives.cases_next.Goals as goal

pub returns-in-empty : goal.returns-in-empty
returns-in-empty c =
    next_told c.args.stands.here.setting c.args.stands.returned.now c.maybe_next.result (first_in c.args.refusals.now) _ _
    (no_cases_left c.args.stands.here.setting (stands_here c.args.stands) c.args.all c.in-empty.len_below)
    c.maybe_next.ensures

pub returns-in-len1-up : goal.returns-in-len1-up
returns-in-len1-up c =
    next_onward c.args.stands.here.setting c.args.stands.returned.now c.case_next.result (first_in c.args.refusals.now) (first_in c.case_next.new.refusals) _ _
    (first_case c.args.stands.here.setting (stands_here c.args.stands) c.args.all.cases.now c.case-item.result _ (first_and_rest c.args.all.cases.now c.case-item.result c.in-len1-up.len_at_least c.case-item.is))
    c.case_next.ensures
