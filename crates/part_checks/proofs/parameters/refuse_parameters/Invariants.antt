use Rattle.std.proofs.Common.{◌≡◌, drop}
use Rattle.std.specs.List.{flat_map}
use Rattle.expr_tree.specs.View.{pattern_views}
use Rattle.class_checks.specs.Results.{first_among}
use Rattle.definition_scopes.specs.Below.check_scopes.specs.Told.{first_in}
use Rattle.type_check.specs.Below.check_frames.specs.Meant.{scope_here, spec_here}
use Rattle.part_checks.specs.Binding.{parameter_in}
use Rattle.part_checks.proofs.parameters.refuse_parameters.Given as goal

abbrev pub invariant-loop-pattern : goal.invariant-loop-pattern
invariant-loop-pattern l =
    first_among (first_in l.refusals) (flat_map (parameter_in (spec_here l.here) (scope_here l.here)) (pattern_views (drop l.pattern-index l.patterns)))
    ≡ first_among (first_in l.fn.refusals) (flat_map (parameter_in (spec_here l.here) (scope_here l.here)) (pattern_views l.patterns))
