use Rattle.std.proofs.Common.{option_map, ◌++◌}
use Rattle.type_tree.specs.TypeView.{type_view}
use Rattle.expr_tree.specs.View.{pattern_view}
use Rattle.class_checks.specs.Expressions.{optional_type_faults, optional_want_faults}
use Rattle.class_checks.specs.Patterns.{pattern_faults}
use Rattle.check_steps.specs.Below.check_scopes.specs.Told.{first_in, spec_in, types_in}
use Rattle.check_steps.specs.Below.check_frames.specs.Meant.{scope_here}
use Rattle.check_binds.proofs.Behinds.{on_both}
use Rattle.check_binds.proofs.definitions.definition_faults.Goals as goal

pub returns : goal.returns
returns c =
    on_both c.optional_faults.result (first_in c.args.refusals.now) (first_in c.refuse_pattern.new.refusals) (first_in c.optional_faults.new.refusals) (pattern_faults (spec_in c.args.here.setting) (types_in c.args.here.setting) (pattern_view c.args.pattern.now.value)) (optional_type_faults (spec_in c.args.here.setting) (scope_here c.args.here) (option_map type_view c.args.declared.now) ++ optional_want_faults (spec_in c.args.here.setting) (scope_here c.args.here) (option_map type_view c.args.declared.now) c.args.place c.args.form.now) c.in_ok-refuse_pattern.ensures c.optional_faults.ensures
