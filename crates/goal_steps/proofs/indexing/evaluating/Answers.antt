use Rattle.std.proofs.Common.{ap, ◌∙◌}
use Rattle.expr_tree.specs.View.{view_of}
use Rattle.expr_tree.specs.declared.expr.Expr.{Expr}
use Rattle.plans.specs.Plans.{part}
use Rattle.node_meaning.specs.Envs.{at}
use Rattle.node_meaning.specs.Tasks.{expr_in}
use Rattle.eval_data.specs.Parts.{here_of}
use Rattle.step_data.specs.declared.assigning.Assigning.{Assigning}
use Rattle.step_data.specs.Goals.{index_then}
use Rattle.goal_steps.proofs.Beginning.{part_evaluated}
use Rattle.goal_steps.proofs.indexing.evaluating.Goals as goal

pub returns-clause-same : goal.returns-clause-same
returns-clause-same c = λ spec locals.
    let a = c.args.assigning.value in
    let p = c.args.part in
    let b = c.set_left.new.assigning in
    ap (λ (x : Assigning). part (expr_in (at (here_of x.here) locals) (view_of c.deref-2.result.now)) (index_then spec b)) c.deref.ensures
    ∙ ap (λ (tree : Expr). part (expr_in (at (here_of a.here) locals) (view_of tree)) (index_then spec b)) c.deref-2.ensures
    ∙ part_evaluated spec locals a b p (c.set_left.ensures ∙ ap (λ (x : Assigning). record x { left = p.left; value = p.value }) c.deref_mut.ensures.value)
