use Rattle.std.proofs.Common.{ap, map, sym}
use Rattle.expr_tree.specs.View.{case_view, maybe_view}
use Rattle.form_meaning.specs.Forms.{FormTree}
use Rattle.check_series.specs.Below.check_scopes.specs.Told.{first_in}
use Rattle.check_series.specs.Below.check_frames.specs.Meant.{cases_check, scope_here}
use Rattle.check_series.specs.Below.check_frames.specs.Steps.{told_onward}
use Rattle.check_parts.proofs.alternatives.subject_behind.Goals as goal

pub returns : goal.returns
returns c =
    told_onward c.args.here.setting c.cases_next.result (first_in c.args.refusals.now) (first_in c.cases_next.new.refusals) _ _ (ap (λ (k : FormTree). cases_check c.args.here.setting (scope_here c.args.here) c.args.form k (map case_view c.args.cases.now) (maybe_view c.args.others.now)) (sym c.nothing.ensures)) c.cases_next.ensures
