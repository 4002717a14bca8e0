-- Which variable the name of a target means, and what is told of it.
use Rattle.std.specs.Prelude.{◌≡◌, ℕ, Bool, Option, Some}
use Rattle.std.proofs.Common.{ap, sym, ◌∙◌, append-nil}
use Rattle.vdm_kinds.specs.declared.name.Name.{Name}
use Rattle.vdm_kinds.specs.declared.place.Place.{Place}
use Rattle.vdm_kinds.specs.declared.spec_fault.SpecFault.{SpecFault}
use Rattle.abstract_syntax.specs.Classes.{SpecTree}
use Rattle.form_meaning.specs.Forms.{FormTree}
use Rattle.class_checks.specs.Members.{is_below_number}
use Rattle.class_checks.specs.Results.{Checked, first_among, gives, refusing}
use Rattle.class_checks.specs.Scopes.{scope_number}
use Rattle.spec_checks.specs.Targets.{StmtScope, Written, written_behind_class, written_in}
use Rattle.target_steps.specs.Below.check_scopes.specs.Told.{Told, told}
use Rattle.target_steps.specs.Below.stmt_scopes.specs.Refused.{refused, refused_refusing}

-- what stands behind the name of a class that is there
pub written_behind : (spec : SpecTree) (scope : StmtScope) (name : Name) (name_place place : Place) (o : Option ℕ) (k : ℕ) (own : Bool) → o ≡ Some k
    → own ≡ is_below_number spec (scope_number spec scope.within) k
    → written_behind_class spec scope name name_place place o ≡ written_in spec scope name name_place own o
written_behind spec scope name name_place place o k own e is =
    ap (written_behind_class spec scope name name_place place) e
    ∙ ap (λ (b : Bool). written_in spec scope name name_place b (Some k)) (sym is)
    ∙ ap (written_in spec scope name name_place own) (sym e)

-- ---- what is told of the variable

pub told_again : (first : Option SpecFault) (checked : Checked) → told first (refusing checked.refusals (gives checked.form)) ≡ told first checked
told_again first checked = λ i. record { form = checked.form; first = first_among first (append-nil checked.refusals i) }

-- ... and of what is done with it
pub told_written : (w : Written) (form : FormTree) (first later : Option SpecFault) (rest : FormTree → Checked)
    → told first (refusing w.refusals (gives w.form)) ≡ told later (gives form)
    → refused first (refusing w.refusals (rest w.form)) ≡ refused later (rest form)
told_written w form first later rest so =
    refused_refusing first later w.refusals (rest w.form)
    (sym (ap (λ (t : Told). t.first) so) ∙ ap (first_among first) (append-nil w.refusals))
    ∙ ap (λ (f : FormTree). refused later (rest f)) (ap (λ (t : Told). t.form) so)
