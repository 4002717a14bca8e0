use Rattle.vdm_legal.proofs.Taken.{legal-entry, one-entry}
use Rattle.vdm_legal.proofs.laws.what_is_legal_is_determined.Goals as goal

pub returns : goal.returns
returns c = λ spec before question one other x y m n legal also numbered too. one-entry spec before question one other x y (legal-entry spec before question one x m legal) (legal-entry spec before question other y n also) numbered too
