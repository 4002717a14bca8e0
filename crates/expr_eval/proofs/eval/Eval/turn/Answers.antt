use Rattle.expr_eval.proofs.Turning.{asks}
use Rattle.expr_eval.proofs.eval.Eval.turn.Goals as goal

pub returns-in-Needs-clause-turned : goal.returns-in-Needs-clause-turned
returns-in-Needs-clause-turned c = λ units.
    asks c.args.self.now c.set_next.new.self c.args.reached c.in-Needs.need c.in-Needs.nest c.in-Needs.place c.in-Needs.after units c.in-Needs.is c.set_next.ensures
