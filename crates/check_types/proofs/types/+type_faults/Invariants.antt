use Rattle.std.proofs.Common.{◌≡◌, drop}
use Rattle.type_tree.specs.TypeView.{type_trees, type_views}
use Rattle.class_checks.specs.Results.{first_among}
use Rattle.class_checks.specs.TypeNames.{types_faults}
use Rattle.check_scopes.specs.Told.{first_in, spec_in, types_in}
use Rattle.check_types.proofs.types.+type_faults.Given as goal

abbrev pub invariant-loop-factor : goal.invariant-loop-factor
invariant-loop-factor l =
    first_among (first_in l.refusals) (types_faults (spec_in l.setting) (types_in l.setting) (type_trees (type_views (drop l.factor-index l.factor-items))))
    ≡ first_among (first_in l.fn.refusals) (types_faults (spec_in l.setting) (types_in l.setting) (type_trees (type_views l.factor-items)))

abbrev pub invariant-loop-alternative : goal.invariant-loop-alternative
invariant-loop-alternative l =
    first_among (first_in l.refusals) (types_faults (spec_in l.setting) (types_in l.setting) (type_trees (type_views (drop l.alternative-index l.alternative-items))))
    ≡ first_among (first_in l.fn.refusals) (types_faults (spec_in l.setting) (types_in l.setting) (type_trees (type_views l.alternative-items)))
