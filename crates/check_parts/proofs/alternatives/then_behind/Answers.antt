use Rattle.std.proofs.Common.{ap, sym}
use Rattle.form_meaning.specs.Forms.{FormTree}
use Rattle.check_series.specs.Below.check_frames.specs.Meant.{branches_check, scope_here}
use Rattle.check_series.specs.Below.check_frames.specs.Steps.{onward}
use Rattle.check_parts.proofs.alternatives.then_behind.Goals as goal

pub returns : goal.returns
returns c =
    onward c.args.here.setting c.branches_next.result _ _ (ap (λ (k : FormTree). branches_check c.args.here.setting (scope_here c.args.here) k c.args.rest) (sym c.in_ok-known.ensures)) c.branches_next.ensures
