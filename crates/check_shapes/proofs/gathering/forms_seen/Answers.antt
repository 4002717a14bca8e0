use Rattle.std.proofs.Common.{arith}
use Rattle.check_shapes.proofs.Gathered.{forms_end, forms_step}
use Rattle.check_shapes.proofs.gathering.forms_seen.Goals as goal

pub loop-seen-preserved : goal.loop-seen-preserved
loop-seen-preserved c =
    forms_step c.args.done.now c.loop-seen.seen-index c.seen-item.result c.loop-seen.forms.items c.push.new.self.items
    c.in_ok-copy.field-0 _ c.seen-item.is c.loop-seen-test.true c.in_ok-push.ensures.items c.in_ok-copy.ensures c.loop-seen.invariant

pub returns : goal.returns
returns c =
    forms_end c.args.done.now c.loop-seen.seen-index c.loop-seen.forms.items _
    (omega (arith, c.loop-seen-test.false)) c.loop-seen.invariant
