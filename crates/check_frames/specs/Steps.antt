-- From what comes next of a part of a step to what comes next of the step.
use Rattle.std.specs.Prelude.{◌≡◌, List, Option, Result, Ok, Err, IfOk}
use Rattle.std.proofs.Common.{ap, ◌∙◌}
use Rattle.vdm_kinds.specs.declared.spec_fault.SpecFault.{SpecFault}
use Rattle.class_checks.specs.Results.{Checked, refusing, first_among}
use Rattle.check_patterns.specs.Below.check_scopes.specs.Told.{told, told_refusing}
use Rattle.check_patterns.specs.Below.check_scopes.specs.declared.setting.Setting.{Setting}
use Rattle.check_frames.specs.Meant.{next_check}
use Rattle.check_frames.specs.declared.next.Next.{Next}

-- of equal checks the same comes next
pub onward : {E : Type 0} (setting : Setting) (next : Result Next E) (checked other : Checked) → checked ≡ other
    → IfOk next (λ n. other ≡ next_check setting n) → IfOk next (λ n. checked ≡ next_check setting n)
onward setting (Ok n) checked other e h = e ∙ h
onward setting (Err f) checked other e h = h

-- where nothing is refused
pub told_next : {E : Type 0} (setting : Setting) (next : Result Next E) (first : Option SpecFault) (checked other : Checked) → checked ≡ other
    → IfOk next (λ n. other ≡ next_check setting n) → IfOk next (λ n. told first checked ≡ told first (next_check setting n))
told_next setting (Ok n) first checked other e h = ap (told first) (e ∙ h)
told_next setting (Err f) first checked other e h = h

-- where this is refused
pub refused_next : {E : Type 0} (setting : Setting) (next : Result Next E) (first later : Option SpecFault) (refusals : List SpecFault)
    (checked other : Checked) → later ≡ first_among first refusals → checked ≡ other → IfOk next (λ n. other ≡ next_check setting n)
    → IfOk next (λ n. told first (refusing refusals checked) ≡ told later (next_check setting n))
refused_next setting (Ok n) first later refusals checked other e same h = told_refusing first later refusals checked e ∙ ap (told later) (same ∙ h)
refused_next setting (Err f) first later refusals checked other e same h = h

-- what is told of equal checks
pub told_onward : {E : Type 0} (setting : Setting) (next : Result Next E) (first later : Option SpecFault) (checked other : Checked) → checked ≡ other
    → IfOk next (λ n. told first other ≡ told later (next_check setting n)) → IfOk next (λ n. told first checked ≡ told later (next_check setting n))
told_onward setting (Ok n) first later checked other e h = ap (told first) e ∙ h
told_onward setting (Err f) first later checked other e h = h

-- ... behind what is refused
pub refused_onward : {E : Type 0} (setting : Setting) (next : Result Next E) (first middle later : Option SpecFault) (refusals : List SpecFault)
    (checked : Checked) → middle ≡ first_among first refusals → IfOk next (λ n. told middle checked ≡ told later (next_check setting n))
    → IfOk next (λ n. told first (refusing refusals checked) ≡ told later (next_check setting n))
refused_onward setting (Ok n) first middle later refusals checked e h = told_refusing first middle refusals checked e ∙ h
refused_onward setting (Err f) first middle later refusals checked e h = h
