use Rattle.std.proofs.Common.{arith}
use Rattle.type_forms.proofs.Turns.{copy_step, copy_end}
use Rattle.type_forms.proofs.form.copy_alts.Goals as goal

pub loop-alt-preserved : goal.loop-alt-preserved
loop-alt-preserved c =
    copy_step c.args.alts.now c.loop-alt.alt-index c.alt-item.result c.loop-alt.copies.items c.push.new.self.items c.in_ok-copy.field-0 _
    c.alt-item.is c.loop-alt-test.true c.in_ok-push.ensures.items c.in_ok-copy.ensures c.loop-alt.invariant

pub returns : goal.returns
returns c = copy_end c.args.alts.now c.loop-alt.alt-index _ _ (omega (arith, c.loop-alt-test.false)) c.loop-alt.invariant
