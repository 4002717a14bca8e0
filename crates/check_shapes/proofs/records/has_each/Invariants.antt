use Rattle.std.proofs.Common.{◌≡◌, drop}
use Rattle.std.specs.List.{list_all}
use Rattle.class_checks.specs.Shapes.{has_field}
use Rattle.check_fields.specs.Below.check_scopes.specs.Told.{spec_in}
use Rattle.check_shapes.specs.ShapeView.{names_of}
use Rattle.check_shapes.proofs.records.has_each.Given as goal

abbrev pub invariant-loop-field : goal.invariant-loop-field
invariant-loop-field l =
    list_all (has_field (spec_in l.setting) l.class l.name) (names_of (drop l.field-index l.fields))
    ≡ list_all (has_field (spec_in l.setting) l.class l.name) (names_of l.fields)
