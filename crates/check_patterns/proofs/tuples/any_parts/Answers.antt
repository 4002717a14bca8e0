use Rattle.std.proofs.Common.{arith}
use Rattle.check_patterns.proofs.Counts.{any_step, any_end}
use Rattle.check_patterns.proofs.tuples.any_parts.Goals as goal

pub loop-done-preserved : goal.loop-done-preserved
loop-done-preserved c = any_step _ _ c.loop-done.done c.any.result c.in_ok-push.ensures.items c.any.ensures c.loop-done.invariant

pub returns : goal.returns
returns c = any_end _ c.loop-done.done _ (omega (arith, c.loop-done-test.false, c.loop-done.auto.done-end)) c.loop-done.invariant
