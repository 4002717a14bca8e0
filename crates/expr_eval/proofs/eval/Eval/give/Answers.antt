use Rattle.expr_eval.proofs.Turning.{given-low}
use Rattle.expr_eval.proofs.eval.Eval.give.Goals as goal

pub returns-in-Ok-clause-falls : goal.returns-in-Ok-clause-falls
returns-in-Ok-clause-falls c = λ units.
    given-low c.args.self.now c.set_next.new.self c.in-Waits.nest c.in-Waits.after c.in-Waits.place c.in-Ok.step units
    c.in-Waits.is c.set_next.ensures c.in-Ok.ensures.light
