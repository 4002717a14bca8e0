use Rattle.std.proofs.Common.{List, ap, map, sym, ◌∙◌}
use Rattle.std.specs.List.{flat_map}
use Rattle.abstract_syntax.specs.Classes.{FieldTree}
use Rattle.expr_tree.specs.TypeDefView.{field_view, type_body_view}
use Rattle.expr_tree.specs.declared.type_def.Field.{Field}
use Rattle.expr_tree.specs.declared.type_def.TypeBody.{TypeBody}
use Rattle.spec_checks.specs.Definitions.{body_type_faults}
use Rattle.class_checks.specs.Results.{first_among}
use Rattle.class_checks.specs.TypeNames.{type_faults}
use Rattle.part_checks.specs.Below.check_scopes.specs.Told.{first_in, spec_in, types_in}
use Rattle.definition_checks.proofs.type_defs.refuse_body.Goals as goal

pub returns-in-Fields : goal.returns-in-Fields
returns-in-Fields c =
    c.refuse_fields.ensures
    ∙ ap (λ (fs : List Field). first_among (first_in c.args.refusals.now)
    (flat_map (λ (f : FieldTree). type_faults (spec_in c.args.setting) (types_in c.args.setting) f.declared) (map field_view fs))) c.as_slice.ensures.value
    ∙ ap (λ (b : TypeBody). first_among (first_in c.args.refusals.now)
    (body_type_faults (spec_in c.args.setting) (types_in c.args.setting) (type_body_view b))) (sym c.in-Fields.is)
