use Rattle.std.proofs.Common.{sym, arith}
use Rattle.expr_eval.specs.Turns.{rests, stands_with}
use Rattle.expr_eval.proofs.Turning.{turned_as}
use Rattle.expr_eval.proofs.eval.Eval.go_on.Goals as goal

pub returns-clause-turned : goal.returns-clause-turned
returns-clause-turned c =
    turned_as c.turn.result (λ answers. rests c.run.new.self c.in_ok-reached.reached answers c.run.new.fuel) (λ answers. stands_with c.args.self.now c.args.doing.nest c.args.doing.step answers c.args.fuel.now) c.turn.new.self c.run.new.fuel
    (λ answers. sym (c.in_ok-reached.ensures.same answers)) (c.turn.ensures.turned c.run.new.fuel)

pub returns-clause-falls : goal.returns-clause-falls
returns-clause-falls c = omega (arith, c.turn.ensures.low c.run.new.fuel, c.in_ok-reached.ensures.falls)
