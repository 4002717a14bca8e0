use Rattle.std.proofs.Common.{refl}
use Rattle.shared_names.specs.Maps.{held}
use Rattle.check_steps.specs.Below.check_frames.specs.Steps.{onward}
use Rattle.check_steps.specs.Scoped.{case_first}
use Rattle.check_series.proofs.cases.case_behind.Goals as goal

pub returns : goal.returns
returns c =
    onward c.args.here.setting c.givens_next.result _ _
    (case_first c.args.here.setting (held c.args.here.locals.now) (held c.in_ok-locals.locals) c.args.known _ c.args.all _ _ _ c.in_ok-exprs.ensures c.in_ok-scopes.ensures c.in_ok-locals.ensures refl)
    c.givens_next.ensures
