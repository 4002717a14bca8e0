use Rattle.std.proofs.Common.{arith}
use Rattle.check_shapes.proofs.Gathered.{all_end, all_step}
use Rattle.check_shapes.proofs.gathering.all_seen.Goals as goal

pub loop-seen-preserved : goal.loop-seen-preserved
loop-seen-preserved c =
    all_step c.args.done.now c.loop-seen.seen-index c.seen-item.result c.loop-seen.known c.in_ok-known.known _
    c.seen-item.is c.loop-seen-test.true c.in_ok-known.ensures c.loop-seen.invariant

pub returns : goal.returns
returns c = all_end c.args.done.now c.loop-seen.seen-index c.loop-seen.known _ (omega (arith, c.loop-seen-test.false)) c.loop-seen.invariant
