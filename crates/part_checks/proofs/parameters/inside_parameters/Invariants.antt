use Rattle.std.proofs.Common.{◌≡◌, drop}
use Rattle.type_tree.specs.TypeView.{type_views}
use Rattle.expr_tree.specs.View.{pattern_views}
use Rattle.shared_names.specs.Maps.{held}
use Rattle.spec_checks.specs.Definitions.{parameters_bind}
use Rattle.class_checks.specs.Scopes.{all_bound}
use Rattle.definition_scopes.specs.Below.check_scopes.specs.Told.{types_in}
use Rattle.type_check.specs.Below.check_frames.specs.Meant.{scope_here, spec_here}
use Rattle.part_checks.proofs.parameters.inside_parameters.Given as goal

abbrev pub invariant-loop-index : goal.invariant-loop-index
invariant-loop-index l =
    all_bound (parameters_bind (spec_here l.here) (types_in l.here.setting) (scope_here l.here) (type_views (drop l.index l.types)) (pattern_views (drop l.index l.patterns))) (held l.locals)
    ≡ all_bound (parameters_bind (spec_here l.here) (types_in l.here.setting) (scope_here l.here) (type_views l.types) (pattern_views l.patterns)) (held l.here.locals.now)
