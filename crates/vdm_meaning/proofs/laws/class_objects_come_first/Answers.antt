use Rattle.vdm_meaning.proofs.AskedQuestions.{asked-in_turn}
use Rattle.vdm_meaning.proofs.laws.class_objects_come_first.Goals as goal

pub returns : goal.returns
returns c = asked-in_turn
