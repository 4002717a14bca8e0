-- The instance invariant worked out.
use Rattle.std.proofs.Common.{◌≡◌, ◌∷◌, [], false, true, refl}
use Rattle.vdm_values.specs.declared.slot.Slot.TheVariants.{Unset}
use Rattle.value_operators.specs.Outcomes.{sized}
use Rattle.plans.specs.Plans.{meaning}
use Rattle.vdm_legal.specs.State.{keeps_with}
use Rattle.stmt_meaning.specs.Keeping.{keeps}
use Rattle.vdm_meaning.specs.Worked.{AreSaid}
use Rattle.vdm_meaning.specs.WorkedInvariants.{level_set, overfilled, said_overfilled, said_too_full, tank, tank_made, tank_spec, var_level}

pub low-kept : keeps_with (tank_spec 1) tank_made (level_set 2) ≡ true
unfolding meaning sized
low-kept = refl

pub high-refused : keeps_with (tank_spec 1) tank_made (level_set 3) ≡ false
unfolding meaning sized
high-refused = refl

pub unset-kept : keeps (tank_spec 1) tank ((var_level, Unset) ∷ []) ≡ true
unfolding meaning sized
unset-kept = refl

pub overfilled-said : AreSaid (tank_spec 1) overfilled 60 [] said_overfilled
unfolding meaning sized
overfilled-said = (refl, (refl, (refl, (refl, (refl, (refl, (refl, refl)))))))

pub too_full-said : AreSaid (tank_spec 5) overfilled 60 [] said_too_full
unfolding meaning sized
too_full-said = (refl, (refl, (refl, refl)))
