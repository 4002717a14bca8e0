use Rattle.std.proofs.Common.{List, drop, ap, ◌∙◌}
use Rattle.form_meaning.specs.Forms.{FormTree}
use Rattle.class_checks.specs.Patterns.{first_form}
use Rattle.check_types.specs.Below.check_scopes.specs.Told.{spec_in, types_in}
use Rattle.check_patterns.proofs.Shapes.{fields_headed}
use Rattle.check_patterns.proofs.Waiting.{same_found}
use Rattle.check_patterns.proofs.bound.with_fields.Goals as goal

pub returns : goal.returns
returns c =
    same_found (spec_in c.args.setting) (types_in c.args.setting) c.with_first.result c.args.binding _ _
    (fields_headed (spec_in c.args.setting) (types_in c.args.setting) c.args.patterns.now c.pattern-item.result c.in-len1-up.len_at_least c.pattern-item.is
    c.args.forms.items c.args.index c.in_ok-next-in-len1-up.next c.in_ok-field-in-len1-up.field
    (c.in_ok-field-in-len1-up.ensures ∙ ap (λ (forms : List FormTree). first_form (drop c.args.index forms)) c.as_slice.ensures.value)
    c.in_ok-next-in-len1-up.ensures)
    c.with_first.ensures
