use Rattle.std.proofs.Common.{arith, ap, ◌∙◌}
use Rattle.form_meaning.specs.Forms.{alt_joined}
use Rattle.type_forms.specs.Tree.{alt_of}
use Rattle.type_forms.proofs.Lists.{nodes_of-alt, nodes_of-form}
use Rattle.type_forms.proofs.Turns.{each_step, each_end, parts_step, parts_pass, parts_end}
use Rattle.type_forms.proofs.joining.+joining.Goals.{parts_joined-in-empty+in_ok-copy-in-empty+in_ok-push-in-empty, parts_joined-in-len1-up+in_ok-joined_with-in-len1-up+in_ok-push-in-len1-up}
use Rattle.type_forms.proofs.joining.+joining.Goals as goal

pub each_joined-alt_joined-requires : goal.each_joined-alt_joined-requires
each_joined-alt_joined-requires t c = (omega (arith, nodes_of-alt _ _ _ c.alternative-item.is c.loop-alternative-test.true), tt)

pub each_joined-loop-alternative-preserved : goal.each_joined-loop-alternative-preserved
each_joined-loop-alternative-preserved t c =
    each_step c.args.alternatives.now c.loop-alternative.alternative-index c.alternative-item.result c.loop-alternative.made.items
    c.push.new.self.items c.in_ok-alt_joined.field-0 _ _ c.alternative-item.is c.loop-alternative-test.true c.in_ok-push.ensures.items
    (c.in_ok-alt_joined.ensures ∙ ap (alt_joined (alt_of c.alternative-item.result)) c.same_kind_in.ensures)
    c.loop-alternative.invariant

pub each_joined-returns : goal.each_joined-returns
each_joined-returns t c = each_end c.args.alternatives.now c.loop-alternative.alternative-index _ _ _ (omega (arith, c.loop-alternative-test.false)) c.loop-alternative.invariant

pub parts_joined-joined_with-requires : goal.parts_joined-joined_with-requires
parts_joined-joined_with-requires t c = (omega (arith, nodes_of-form _ _ _ c.part-item.is c.loop-part-test.true), tt)

pub parts_joined-loop-part-preserved : goal.parts_joined-loop-part-preserved
parts_joined-loop-part-preserved t c = elim c.if-left-lt1.branch [
  | parts_joined-in-empty+in_ok-copy-in-empty+in_ok-push-in-empty w ↦
      parts_pass c.args.parts.now c.loop-part.part-index c.part-item.result c.loop-part.made.items c.if-left-lt1.made.items
      w.in_ok-copy-in-empty.field-0 c.loop-part.left.now c.if-left-lt1.left.now _ c.part-item.is c.loop-part-test.true
      (ap (λ v. v.items) w.made-is ∙ w.in_ok-push-in-empty.ensures.items) (ap (λ b. b.now) w.left-is) w.in-empty.len_below
      w.in_ok-copy-in-empty.ensures c.loop-part.invariant
  | parts_joined-in-len1-up+in_ok-joined_with-in-len1-up+in_ok-push-in-len1-up w ↦
      parts_step c.args.parts.now c.loop-part.part-index c.part-item.result c.loop-part.made.items c.if-left-lt1.made.items
      w.in_ok-joined_with-in-len1-up.field-0 c.loop-part.left.now c.if-left-lt1.left.now w.other-item.result _ c.part-item.is
      c.loop-part-test.true (ap (λ v. v.items) w.made-is ∙ w.in_ok-push-in-len1-up.ensures.items) (ap (λ b. b.now) w.left-is)
      w.in-len1-up.len_at_least w.other-item.is w.in_ok-joined_with-in-len1-up.ensures c.loop-part.invariant
]

pub parts_joined-returns : goal.parts_joined-returns
parts_joined-returns t c = parts_end c.args.parts.now c.loop-part.part-index _ _ _ (omega (arith, c.loop-part-test.false)) c.loop-part.invariant
