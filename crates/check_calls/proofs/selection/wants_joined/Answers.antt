use Rattle.std.proofs.Common.{arith}
use Rattle.check_calls.proofs.Wants.{wants_end, wants_step, wants_stop}
use Rattle.check_calls.proofs.selection.wants_joined.Goals as goal

pub loop-i-preserved : goal.loop-i-preserved
loop-i-preserved c =
    wants_step c.args.known.now c.args.others.now c.loop-i.i c.index-known-i.result c.index-others-i.result c.loop-i.wants.items
    c.in_ok-wants-2.wants.items _ c.index-known-i.is c.loop-i-test.true c.index-others-i.is (omega (arith, c.if-i-count.false))
    c.in_ok-wants-2.ensures c.loop-i.invariant

pub returns-then-i-count : goal.returns-then-i-count
returns-then-i-count c =
    wants_stop c.args.known.now c.args.others.now c.loop-i.i c.loop-i.wants.items _ (omega (arith, c.if-i-count.true)) c.loop-i.invariant

pub returns : goal.returns
returns c =
    wants_end c.args.known.now c.args.others.now c.loop-i.i c.loop-i.wants.items _ (omega (arith, c.loop-i-test.false)) c.loop-i.invariant
