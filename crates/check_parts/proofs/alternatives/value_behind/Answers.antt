use Rattle.std.proofs.Common.{ap, sym}
use Rattle.form_meaning.specs.Forms.{FormTree}
use Rattle.check_series.specs.Below.check_scopes.specs.Told.{first_in}
use Rattle.check_series.specs.Below.check_frames.specs.Meant.{scope_here, values_check}
use Rattle.check_series.specs.Below.check_frames.specs.Steps.{told_onward}
use Rattle.check_parts.proofs.alternatives.value_behind.Goals as goal

pub returns : goal.returns
returns c =
    told_onward c.args.here.setting c.values_next.result (first_in c.args.refusals.now) (first_in c.values_next.new.refusals) _ _ (ap (λ (k : FormTree). values_check c.args.here.setting (scope_here c.args.here) k c.args.values) (sym c.in_ok-known.ensures)) c.values_next.ensures
