use Rattle.vdm_meaning.proofs.WorkedInvariants.{high-refused, low-kept, overfilled-said, too_full-said, unset-kept}
use Rattle.vdm_meaning.proofs.laws.worked_invariants.Goals as goal

pub returns : goal.returns
returns c = record {
  low = low-kept;
  high = high-refused;
  unset = unset-kept;
  overfilled = overfilled-said;
  too_full = too_full-said;
}
