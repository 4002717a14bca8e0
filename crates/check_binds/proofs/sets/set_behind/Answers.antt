use Rattle.std.proofs.Common.{refl}
use Rattle.class_checks.specs.Expressions.{set_faults}
use Rattle.check_steps.specs.Below.check_scopes.specs.Told.{first_in, spec_in}
use Rattle.check_steps.specs.Below.check_patterns.specs.Shown.{patterns_of}
use Rattle.check_steps.specs.Below.check_frames.specs.Meant.{scope_here}
use Rattle.check_steps.specs.Below.check_frames.specs.Steps.{refused_next}
use Rattle.check_binds.proofs.sets.set_behind.Goals as goal

pub returns : goal.returns
returns c =
    refused_next c.args.here.setting c.bound_next.result (first_in c.args.refusals.now) (first_in c.set_faults.new.refusals) (set_faults (spec_in c.args.here.setting) (scope_here c.args.here) (patterns_of c.args.patterns) c.args.place c.args.form) _ _ c.in_ok-set_faults.ensures refl c.bound_next.ensures
