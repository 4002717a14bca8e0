use Rattle.std.proofs.Common.{◌≡◌, subst, IfOk, List, map, ap, ◌∙◌}
use Rattle.abstract_syntax.specs.Classes.{FieldTree}
use Rattle.class_checks.specs.TypeNames.{fields_of_definition, form_of}
use Rattle.check_scopes.specs.Told.{spec_in}
use Rattle.check_types.proofs.records.field_forms.Goals as goal

pub returns-in-Some : goal.returns-in-Some
returns-in-Some c =
    subst (λ (fields : List FieldTree). IfOk c.forms_of.result (λ forms. forms.items ≡ map (λ (f : FieldTree). form_of (spec_in c.args.setting) c.args.class f.declared) fields))
    (c.fields_in.ensures ∙ ap fields_of_definition c.in-Some.ensures)
    c.forms_of.ensures
