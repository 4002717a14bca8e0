use Rattle.std.proofs.Common.{refl}
use Rattle.class_checks.specs.Expressions.{want_faults}
use Rattle.class_checks.specs.Operators.{truth}
use Rattle.check_series.specs.Below.check_scopes.specs.Told.{first_in, spec_in}
use Rattle.check_series.specs.Below.check_frames.specs.Steps.{refused_next}
use Rattle.check_parts.proofs.alternatives.if_behind.Goals as goal

pub returns : goal.returns
returns c =
    refused_next c.args.here.setting c.then_next.result (first_in c.args.refusals.now) (first_in c.want_truth.new.refusals) (want_faults (spec_in c.args.here.setting) truth c.args.place c.args.form) _ _ c.want_truth.ensures refl c.then_next.ensures
