use Rattle.std.proofs.Common.{ap, ◌∙◌}
use Rattle.std.proofs.lemmas.Result.{IfOk-weaker}
use Rattle.expr_tree.specs.View.{view_of}
use Rattle.plans.specs.Plans.{bind, part}
use Rattle.node_meaning.specs.Envs.{at}
use Rattle.node_meaning.specs.Tasks.{expr_in, with_value}
use Rattle.eval_data.specs.declared.fitting.Passing.{Passing}
use Rattle.eval_data.specs.Parts.{here_of}
use Rattle.eval_data.specs.Steps.{arguments_left, frame_then}
use Rattle.eval_data.proofs.step.Step.argument_test.Goals as goal

pub returns : goal.returns
returns c = IfOk-weaker c.test.result _ _ (λ s is setting locals.
    is setting locals ∙ ap (λ (p : Passing). bind (part (expr_in (at (here_of c.args.here) locals) (view_of c.args.tree.now)) (frame_then setting c.args.inner)) (with_value c.args.place (λ v. arguments_left setting.spec p)))
    c.in_ok-new.ensures.ok)
    c.test.ensures
