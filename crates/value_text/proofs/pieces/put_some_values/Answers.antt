use Rattle.value_text.proofs.Coming.{two_more}
use Rattle.value_text.proofs.pieces.put_some_values.Goals as goal

pub returns : goal.returns
returns c = λ names. two_more names _ _ _ _ _ c.in_ok-push.ensures.items c.in_ok-push-2.ensures.items
