use Rattle.std.proofs.Common.{Option, ap, sym, ◌∙◌}
use Rattle.form_meaning.specs.Forms.{FormTree}
use Rattle.class_checks.specs.Callees.{used_field}
use Rattle.check_fields.specs.Below.check_scopes.specs.Told.{scope_at, spec_in}
use Rattle.check_calls.specs.Selecting.{shown_of, use_view}
use Rattle.check_names.proofs.Notes.{if_ok}
use Rattle.check_calls.proofs.selected.of_record.Goals as goal

pub returns-in-Some : goal.returns-in-Some
returns-in-Some c =
    if_ok c.used_field.result c.used_field.ensures (λ selection is names.
    ap (λ (o : Option FormTree). shown_of (used_field (spec_in c.args.setting) (scope_at c.args.setting names) (use_view c.args.way) o))
    (sym c.in_ok-found.ensures ∙ c.in-Some.is)
    ∙ is names)
