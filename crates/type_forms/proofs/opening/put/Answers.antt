use Rattle.type_forms.proofs.Steps.{turned_step}
use Rattle.type_forms.proofs.opening.put.Goals as goal

pub loop-alternative-preserved : goal.loop-alternative-preserved
loop-alternative-preserved c =
    turned_step c.loop-alternative.left.items c.pop.new.self.items c.in-Some.alternative c.loop-alternative.pending.items
    c.push.new.self.items _ c.in-Some.ensures.items c.in_ok-push.ensures.items c.loop-alternative.invariant
