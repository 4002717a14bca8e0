use Rattle.std.proofs.lemmas.Slice.Zip.{either_empty_from_Zip}
use Rattle.bind_choices.proofs.Picking.{all_picked}
use Rattle.bind_choices.proofs.indices.values_at.Goals as goal

pub returns : goal.returns
returns c =
    all_picked _ _ _ _ c.loop-list.invariant.2
    (either_empty_from_Zip c.loop-list.list-iterator c.next.new.self c.next.result c.in-None.is c.next.ensures.steps)
