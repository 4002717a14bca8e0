use Rattle.value_text.proofs.Coming.{popped}
use Rattle.value_text.proofs.pieces.next.Goals as goal

pub returns : goal.returns
returns c = λ names. popped names c.pop.result _ _ _ _ c.pop.ensures.items c.pop.ensures.rest c.pop.ensures.cases
