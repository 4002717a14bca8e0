use Rattle.std.proofs.Common.{ℕ, Option, ap, sym, ◌∙◌}
use Rattle.class_checks.specs.Callees.{in_object_class}
use Rattle.check_fields.specs.Below.check_scopes.specs.Told.{scope_at, spec_in}
use Rattle.check_names.proofs.Notes.{if_ok}
use Rattle.check_calls.specs.Selecting.{shown_of, use_view}
use Rattle.check_calls.proofs.selected.in_object_class.Goals as goal

pub returns-in-Some : goal.returns-in-Some
returns-in-Some c =
    if_ok c.in_known_class.result c.in_known_class.ensures (λ selection is names.
    ap (λ (o : Option ℕ). shown_of (in_object_class (spec_in c.args.setting) (scope_at c.args.setting names) (use_view c.args.way) c.args.named.name c.args.named.place o))
    (sym c.in-Some.ensures)
    ∙ is names _ (sym c.in-Some.ensures))
