use Rattle.pattern_steps.proofs.Alone.{framed, of-call}
use Rattle.pattern_steps.proofs.follow.follow_framed.Goals as goal

pub returns-in_default : goal.returns-in_default
returns-in_default c = of-call _ _ _ _ (framed _ _ _ _ c.in_default.not-Concatenated) c.follow_single.ensures
