use Rattle.std.proofs.Common.{arith, ap, sym, ◌∙◌}
use Rattle.type_forms.proofs.Turns.{further_step, further_pass, further_end}
use Rattle.type_forms.proofs.joining.with_further.Goals.{then-not-is_known+in_ok-copy+in_ok-push, else-not-is_known}
use Rattle.type_forms.proofs.joining.with_further.Goals as goal

pub loop-other-preserved : goal.loop-other-preserved
loop-other-preserved c = elim c.if-not-is_known.branch [
  | then-not-is_known+in_ok-copy+in_ok-push w ↦
      further_step c.args.others.now c.loop-other.other-index c.other-item.result c.loop-other.all.items c.if-not-is_known.all.items
      w.in_ok-copy.field-0 _ _ c.other-item.is c.loop-other-test.true (ap (λ v. v.items) w.all-is ∙ w.in_ok-push.ensures.items)
      (sym w.if-not-is_known.ensures) w.in_ok-copy.ensures c.loop-other.invariant
  | else-not-is_known w ↦
      further_pass c.args.others.now c.loop-other.other-index c.other-item.result c.loop-other.all.items c.if-not-is_known.all.items
      _ _ c.other-item.is c.loop-other-test.true (ap (λ v. v.items) w.all-is) (sym w.if-not-is_known.ensures) c.loop-other.invariant
]

pub returns : goal.returns
returns c = further_end c.args.others.now c.loop-other.other-index _ _ _ (omega (arith, c.loop-other-test.false)) c.loop-other.invariant
