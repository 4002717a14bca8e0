use Rattle.std.proofs.Common.{◌≡◌, subst, IfOk, Option, option_map}
use Rattle.std.specs.List.{find}
use Rattle.abstract_syntax.specs.Classes.{FieldTree, TypeDefTree, is_same_name}
use Rattle.class_checks.specs.TypeNames.{fields_of_definition, form_of}
use Rattle.check_scopes.specs.Told.{spec_in}
use Rattle.check_fields.proofs.fields.field_form.Goals as goal

pub returns-in-Some : goal.returns-in-Some
returns-in-Some c =
    subst (λ (o : Option TypeDefTree). IfOk c.form_in.result (λ found. found ≡ option_map (λ (f : FieldTree). form_of (spec_in c.args.setting) c.args.class f.declared)
    (find (λ (f : FieldTree). is_same_name c.args.field f.name) (fields_of_definition o))))
    c.in-Some.ensures
    c.form_in.ensures
