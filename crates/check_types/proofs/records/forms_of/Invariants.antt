use Rattle.std.proofs.Common.{◌≡◌, ◌++◌, map, drop}
use Rattle.abstract_syntax.specs.Classes.{FieldTree}
use Rattle.class_checks.specs.TypeNames.{form_of}
use Rattle.check_scopes.specs.Told.{spec_in}
use Rattle.expr_tree.specs.TypeDefView.{field_view}
use Rattle.check_types.proofs.records.forms_of.Given as goal

abbrev pub invariant-loop-field : goal.invariant-loop-field
invariant-loop-field l =
    l.forms.items ++ map (λ (f : FieldTree). form_of (spec_in l.setting) l.class f.declared) (map field_view (drop l.field-index l.fields))
    ≡ map (λ (f : FieldTree). form_of (spec_in l.setting) l.class f.declared) (map field_view l.fields)
