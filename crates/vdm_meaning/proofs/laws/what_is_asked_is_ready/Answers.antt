use Rattle.vdm_meaning.proofs.AskedQuestions.{asked-ready}
use Rattle.vdm_meaning.proofs.laws.what_is_asked_is_ready.Goals as goal

pub returns : goal.returns
returns c = asked-ready
