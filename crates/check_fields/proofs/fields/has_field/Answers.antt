use Rattle.std.proofs.Common.{◌≡◌, ◌∙◌, ap, refl, Option, Some, None, option_map, is_some}
use Rattle.std.specs.List.{find}
use Rattle.abstract_syntax.specs.Classes.{FieldTree, TypeDefTree, is_same_name}
use Rattle.form_meaning.specs.Forms.{FormTree}
use Rattle.class_checks.specs.TypeNames.{fields_of_definition, form_of}
use Rattle.check_scopes.specs.Told.{spec_in}
use Rattle.check_fields.proofs.fields.has_field.Goals as goal

mapped_some : (g : FieldTree → FormTree) (o : Option FieldTree) → is_some o ≡ is_some (option_map g o)
mapped_some g None = refl
mapped_some g (Some f) = refl

pub returns-in-Some : goal.returns-in-Some
returns-in-Some c =
    c.is_in.ensures
    ∙ ap (λ (o : Option TypeDefTree). is_some (find (λ (f : FieldTree). is_same_name c.args.field f.name) (fields_of_definition o))) c.in-Some.ensures
    ∙ mapped_some (λ (f : FieldTree). form_of (spec_in c.args.setting) c.args.class f.declared) _
