use Rattle.std.proofs.Common.{List, ap, ◌∙◌}
use Rattle.abstract_syntax.specs.Expressions.{ExprTree}
use Rattle.node_meaning.specs.Matching.{exprs_of}
use Rattle.node_meaning.specs.Strict.{collected}
use Rattle.stmt_meaning.specs.Targets.{goal_changed}
use Rattle.eval_data.specs.Parts.{here_of}
use Rattle.step_data.specs.Goals.{goal_view, kept_with, steps_of}
use Rattle.goal_steps.proofs.Beginning.{begun_into}
use Rattle.goal_steps.proofs.assigning.into_goal.Goals as goal

pub returns-clause-same : goal.returns-clause-same
returns-clause-same c = λ spec locals.
    let a = c.in_ok-assigning.assigning.value in
    c.evaluating.ensures.same spec locals
    ∙ ap (λ (trees : List ExprTree). collected (here_of a.here) a.place (exprs_of trees) a.done.items
    (goal_changed spec (here_of a.here) a.place (goal_view a.goal) (steps_of a) (kept_with spec a)) locals) c.first_part.ensures
    ∙ begun_into spec a c.args.here c.args.place c.args.goal c.args.steps c.args.kept c.in_ok-assigning.ensures _ locals
