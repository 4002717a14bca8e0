use Rattle.vdm_legal.proofs.Taken.{ready-answer}
use Rattle.vdm_legal.proofs.laws.what_is_ready_is_answered.Goals as goal

pub returns : goal.returns
returns c = λ spec before question ready. let found = ready-answer spec before question ready in (found.answer, found.next, found.fits, found.made_of, found.legal, found.numbered)
