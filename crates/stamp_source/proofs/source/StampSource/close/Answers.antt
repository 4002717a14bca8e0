use Rattle.std.proofs.Common.{arith}
use Rattle.stamp_source.proofs.Joining.{ends}
use Rattle.stamp_source.proofs.Piles.{once}
use Rattle.stamp_source.proofs.source.StampSource.close.Goals as goal

pub returns : goal.returns
returns c =
    let seat = c.gather-seat.ensures in
    let all = ends _ _ _ _ _ (let few = c.requires.passes.1 in let long = c.args.passes.ok.0 in let some = seat.passes in omega arith) c.close_with.ensures.values.2 in
    record { once = once _ all.0 _ _ seat.numbers all.1 }
