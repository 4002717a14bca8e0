use Rattle.std.proofs.Common.{arith}
use lib.ListN.{length-replicate}
use Rattle.lock_lanes.proofs.Pairs.{new_two, none_left, all_back, noted_by_two}
use Rattle.lock_lanes.proofs.tally.count_by_two.Goals as goal

pub join-first-requires-after_bounds : goal.join-first-requires-after_bounds
join-first-requires-after_bounds g c κs within = new_two _ _ _ _ _ _ c.in_ok-passes.ensures c.in-Ok.ensures.each

pub close-count-requires : goal.close-count-requires
close-count-requires g c =
    let made = c.in-Ok.ensures in
    let none = none_left _ _ _ _ c.in_ok-passes.ensures (let n = made.count in let o = c.in-Ok.passes.ok.0 in omega arith) in
    record { passes = all_back c.in-Ok.lock _ _ _ _ c.in_ok-passes-2.ensures none made.lock.0 c.join-first.ensures.first.0 c.join-first.ensures.second.0 }

pub returns : goal.returns
returns g c =
    let made = c.in-Ok.ensures in
    let none = none_left _ _ _ _ c.in_ok-passes.ensures (let n = made.count in let o = c.in-Ok.passes.ok.0 in omega arith) in
    let both = noted_by_two _ _ _ _ _ _ c.in_ok-passes-2.ensures none made.lock.1 c.close-count.ensures.whole in
    let first = c.join-first.ensures.first.1 in
    let second = c.join-first.ensures.second.1 in
    omega (arith, both, length-replicate c.close-count.result.count (tt {0}))
