use Rattle.std.proofs.Common.{sym, ◌∙◌}
use Rattle.expr_eval.specs.Turns.{rest, stands_with}
use Rattle.expr_eval.proofs.Turning.{advanced, does}
use Rattle.expr_eval.proofs.eval.Eval.advance.Goals as goal

pub returns-in-Some-clause-turned : goal.returns-in-Some-clause-turned
returns-in-Some-clause-turned c =
    let doing = c.in-Some.doing in
    advanced c.go_on.result (λ answers. stands_with c.args.self.now doing.nest doing.step answers c.args.fuel.now) (λ answers. rest c.args.self.now answers c.args.fuel.now) _ _
    (λ answers. does c.args.self.now doing answers c.args.fuel.now (sym c.replace.ensures.value ∙ c.in-Some.ensures)) c.go_on.ensures.turned
