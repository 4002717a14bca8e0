use Rattle.std.proofs.Common.{ap, ◌∙◌}
use Rattle.expr_tree.specs.View.{view_of}
use Rattle.expr_tree.specs.declared.expr.Expr.{Expr}
use Rattle.plans.specs.Plans.{part}
use Rattle.node_meaning.specs.Envs.{at}
use Rattle.node_meaning.specs.Tasks.{expr_in}
use Rattle.eval_data.specs.Parts.{here_of}
use Rattle.step_data.specs.declared.block.Declaring.{Declaring}
use Rattle.step_data.specs.Declarations.{local_came}
use Rattle.goal_steps.proofs.initials.Initial.evaluated.Goals as goal

pub returns-clause-same : goal.returns-clause-same
returns-clause-same c = λ spec locals.
    let here = here_of c.args.rest.here in
    ap (λ (tree : Expr). part (expr_in (at here locals) (view_of tree)) (local_came spec c.in_ok-new.field-0.value)) c.deref.ensures
    ∙ ap (λ (d : Declaring). part (expr_in (at here locals) (view_of c.args.self.value.now.value)) (local_came spec d)) c.in_ok-new.ensures.ok
