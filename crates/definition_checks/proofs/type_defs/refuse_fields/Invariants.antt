use Rattle.std.proofs.Common.{◌≡◌, map, drop}
use Rattle.std.specs.List.{flat_map}
use Rattle.abstract_syntax.specs.Classes.{FieldTree}
use Rattle.expr_tree.specs.TypeDefView.{field_view}
use Rattle.class_checks.specs.Results.{first_among}
use Rattle.class_checks.specs.TypeNames.{type_faults}
use Rattle.part_checks.specs.Below.check_scopes.specs.Told.{first_in, spec_in, types_in}
use Rattle.definition_checks.proofs.type_defs.refuse_fields.Given as goal

abbrev pub invariant-loop-field : goal.invariant-loop-field
invariant-loop-field l =
    first_among (first_in l.refusals) (flat_map (λ (f : FieldTree). type_faults (spec_in l.setting) (types_in l.setting) f.declared) (map field_view (drop l.field-index l.fields)))
    ≡ first_among (first_in l.fn.refusals) (flat_map (λ (f : FieldTree). type_faults (spec_in l.setting) (types_in l.setting) f.declared) (map field_view l.fields))
