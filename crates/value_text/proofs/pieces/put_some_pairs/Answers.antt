use Rattle.value_text.proofs.Coming.{four_more}
use Rattle.value_text.proofs.pieces.put_some_pairs.Goals as goal

pub returns : goal.returns
returns c = λ names.
    four_more names _ _ _ _ _ _ _ _ _ c.in_ok-push.ensures.items c.in_ok-push-2.ensures.items c.in_ok-push-3.ensures.items
    c.in_ok-push-4.ensures.items
