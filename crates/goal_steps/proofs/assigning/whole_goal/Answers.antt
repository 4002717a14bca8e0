use Rattle.std.proofs.Common.{ap, ◌∙◌}
use Rattle.expr_tree.specs.View.{boxed_view, view_of}
use Rattle.expr_tree.specs.declared.expr.Expr.{Expr}
use Rattle.plans.specs.Plans.{part}
use Rattle.node_meaning.specs.Envs.{at}
use Rattle.node_meaning.specs.Tasks.{Code, Flow, expr_in}
use Rattle.eval_data.specs.Parts.{here_of}
use Rattle.step_data.specs.Goals.{join_then}
use Rattle.goal_steps.proofs.Beginning.{begun_whole}
use Rattle.goal_steps.proofs.assigning.whole_goal.Goals as goal

pub returns-clause-same : goal.returns-clause-same
returns-clause-same c = λ spec locals.
    let here = here_of c.args.here in
    let a = c.in_ok-assigning.assigning.value in
    ap (λ (tree : Expr). part (expr_in (at here locals) (view_of tree)) (join_then spec a)) c.deref.ensures
    ∙ ap (λ (k : Flow → Code). part (expr_in (at here locals) (boxed_view c.args.value.now)) k)
    (begun_whole spec a c.args.here c.args.place c.args.goal _ c.args.kept c.in_ok-assigning.ensures)
