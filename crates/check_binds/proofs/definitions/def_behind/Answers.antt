use Rattle.expr_tree.specs.View.{pattern_view}
use Rattle.class_checks.specs.Patterns.{pattern_faults}
use Rattle.check_steps.specs.Below.check_scopes.specs.Told.{first_in, spec_in, types_in}
use Rattle.check_steps.specs.Below.check_frames.specs.Meant.{scope_here}
use Rattle.check_steps.specs.Below.check_frames.specs.Steps.{refused_next}
use Rattle.check_binds.proofs.Behinds.{def_behind_pattern}
use Rattle.check_binds.proofs.definitions.def_behind.Goals as goal

pub returns : goal.returns
returns c =
    refused_next c.args.here.setting c.pattern_next.result (first_in c.args.refusals.now) (first_in c.refuse_pattern.new.refusals) (pattern_faults (spec_in c.args.here.setting) (types_in c.args.here.setting) (pattern_view c.args.pattern.now.value)) _ _ c.in_ok-refuse_pattern.ensures (def_behind_pattern c.args.here.setting (scope_here c.args.here) (pattern_view c.args.pattern.now.value) c.args.body c.args.form) c.pattern_next.ensures
