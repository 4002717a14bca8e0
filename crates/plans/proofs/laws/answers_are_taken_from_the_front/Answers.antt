use Rattle.plans.proofs.Taken.{answers-are-taken-from-the-front}
use Rattle.plans.proofs.laws.answers_are_taken_from_the_front.Goals as goal

pub returns : goal.returns
returns g c = answers-are-taken-from-the-front
