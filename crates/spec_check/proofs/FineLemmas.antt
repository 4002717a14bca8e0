-- That nothing is refused, as a test and as an equation.
use Rattle.std.proofs.Common.{◌≡◌, Bool, true, false, List, [], ◌∷◌, Option, Some, None, is_some, cond, refl, ap}
use Rattle.vdm_kinds.specs.declared.spec_fault.SpecFault.{SpecFault}
use Rattle.class_meaning.proofs.Numbers.{not_both}
use Rattle.spec_checks.specs.Definitions.{spec_faults}
use Rattle.class_checks.specs.Results.{is_before, first_of, first_among}
use Rattle.spec_checks.specs.WellTyped.{IsWellTypedSpec}
use Rattle.sync_checks.specs.Below.spec_table.specs.Tables.{table_spec}
use Rattle.spec_check.specs.NoRefusal.{is_fine}
use Rattle.spec_check.specs.declared.checked.Checked.{Checked}

no_refusal : (refusals : List SpecFault) → is_fine refusals ≡ true → refusals ≡ []
no_refusal [] e = refl
no_refusal (refused ∷ refusals) e = absurd (cc)

-- what was checked is well typed
pub well_typed : (checked : Checked) → IsWellTypedSpec (table_spec checked.table)
well_typed checked = no_refusal (spec_faults (table_spec checked.table)) checked.fine

either : (b : Bool) (l r : SpecFault) → is_some (cond b (Some r) (Some l)) ≡ true
either true l r = refl
either false l r = refl

some_of : (first : Option SpecFault) (refused : SpecFault) → is_some (first_of first refused) ≡ true
some_of None refused = refl
some_of (Some least) refused = either (is_before refused least) least refused

-- once something is refused, there is a first
some_among : (first : Option SpecFault) (refusals : List SpecFault) → is_some first ≡ true → is_some (first_among first refusals) ≡ true
some_among first [] some = some
some_among first (refused ∷ refusals) some = some_among (first_of first refused) refusals (some_of first refused)

-- where there is no first refusal, there is none
pub none_is_fine : (refusals : List SpecFault) → first_among None refusals ≡ None → is_fine refusals ≡ true
none_is_fine [] e = refl
none_is_fine (refused ∷ refusals) e = not_both (some_among (Some refused) refusals refl) (ap is_some e)
