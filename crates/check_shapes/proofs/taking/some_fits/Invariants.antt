use Rattle.std.proofs.Common.{◌≡◌, drop}
use Rattle.class_checks.specs.Shapes.{some_alt}
use Rattle.type_forms.specs.Tree.{alt_trees}
use Rattle.check_fields.specs.Below.check_scopes.specs.Told.{spec_in}
use Rattle.check_shapes.specs.Takings.{fits_by}
use Rattle.check_shapes.proofs.taking.some_fits.Given as goal

abbrev pub invariant-loop-alternative : goal.invariant-loop-alternative
invariant-loop-alternative l =
    some_alt (fits_by (spec_in l.setting) l.taking) (alt_trees (drop l.alternative-index l.alternatives))
    ≡ some_alt (fits_by (spec_in l.setting) l.taking) (alt_trees l.alternatives)
