-- What is told of a check whose form does not matter: the first refusal.
use Rattle.std.specs.Prelude.{◌≡◌, List, Option, Result, Ok, Err, IfOk, OnOk}
use Rattle.std.proofs.Common.{refl, ap, sym, ◌∙◌}
use Rattle.vdm_kinds.specs.declared.spec_fault.SpecFault.{SpecFault}
use Rattle.form_meaning.specs.Forms.{FormTree}
use Rattle.class_checks.specs.Results.{Checked, gives, refusing, after, first_among}
use Rattle.check_frames.specs.Below.check_scopes.specs.Told.{Told, told, told_after, told_given, first_among-++}

-- the first refusal, where this was the first one before the check
abbrev pub refused : Option SpecFault → Checked → Option SpecFault
refused first checked = first_among first checked.refusals

-- what was refused before it is told of no more
pub refused_refusing : (first later : Option SpecFault) (refusals : List SpecFault) (checked : Checked) → later ≡ first_among first refusals
    → refused first (refusing refusals checked) ≡ refused later checked
refused_refusing first later refusals checked e = first_among-++ first refusals checked.refusals
    ∙ ap (λ (f : Option SpecFault). first_among f checked.refusals) (sym e)

-- a part of this form, and what follows from it
pub refused_after : (first later : Option SpecFault) (part : Checked) (form : FormTree) (next : FormTree → Checked) → told first part ≡ told later (gives form)
    → refused first (after part next) ≡ refused later (next form)
refused_after first later part form next e =
    ap (λ (t : Told). t.first) (told_after first later part (gives form) next e ∙ told_given later form next)

-- a part whose form does not matter, and the rest
pub refused_behind : (first later : Option SpecFault) (part other rest : Checked) → refused first part ≡ refused later other
    → refused first (after part (λ (form : FormTree). rest)) ≡ refused later (after other (λ (form : FormTree). rest))
unfolding after
refused_behind first later part other rest e = first_among-++ first part.refusals rest.refusals
    ∙ ap (λ (f : Option SpecFault). first_among f rest.refusals) e
    ∙ sym (first_among-++ later other.refusals rest.refusals)

-- ... where nothing is left of the part
pub refused_rest : (first : Option SpecFault) (form : FormTree) (rest : Checked) → refused first (after (gives form) (λ (f : FormTree). rest)) ≡ refused first rest
unfolding after
refused_rest first form rest = refl

-- what is told of equal checks
pub refused_same : {A E : Type 0} (r : Result A E) (first later : Option SpecFault) (checked other : Checked) → checked ≡ other
    → OnOk r (later ≡ refused first other) → OnOk r (later ≡ refused first checked)
refused_same (Ok a) first later checked other e h = h ∙ ap (refused first) (sym e)
refused_same (Err f) first later checked other e h = h

-- what is told of a check that leads to another
pub refused_onward : {A E : Type 0} (r : Result A E) (first middle later : Option SpecFault) (checked other : Checked)
    → refused first checked ≡ refused middle other → OnOk r (later ≡ refused middle other) → OnOk r (later ≡ refused first checked)
refused_onward (Ok a) first middle later checked other e h = h ∙ sym e
refused_onward (Err f) first middle later checked other e h = h

-- the same of what may be given
pub if_ok : {A E : Type 0} {P Q : A → Type 0} (r : Result A E) → IfOk r P → ((a : A) → P a → Q a) → IfOk r Q
if_ok (Ok a) h from = from a h
if_ok (Err f) h from = tt
