use Rattle.plans.proofs.Sound.{steps-are-sound}
use Rattle.plans.proofs.laws.steps_are_sound.Goals as goal

pub returns : goal.returns
returns g c = steps-are-sound _ _
