use Rattle.std.proofs.Common.{◌≡◌, drop}
use Rattle.std.specs.List.{flat_map}
use Rattle.type_tree.specs.TypeView.{type_views}
use Rattle.class_checks.specs.Results.{first_among}
use Rattle.class_checks.specs.TypeNames.{type_faults}
use Rattle.definition_scopes.specs.Below.check_scopes.specs.Told.{first_in, spec_in, types_in}
use Rattle.part_checks.proofs.types.refuse_types.Given as goal

abbrev pub invariant-loop-one : goal.invariant-loop-one
invariant-loop-one l =
    first_among (first_in l.refusals) (flat_map (type_faults (spec_in l.setting) (types_in l.setting)) (type_views (drop l.one-index l.declared)))
    ≡ first_among (first_in l.fn.refusals) (flat_map (type_faults (spec_in l.setting) (types_in l.setting)) (type_views l.declared))
