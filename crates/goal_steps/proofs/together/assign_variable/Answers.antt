use Rattle.std.proofs.Common.{[], ◌∷◌, ◌++◌, Some, map}
use Rattle.expr_tree.specs.View.{boxed_view}
use Rattle.vdm_tree.specs.StmtView.{assignment_view, target_step_view, target_view}
use Rattle.stmt_meaning.specs.Targets.{goal_given, joined_goal, object_of_first, target_steps, together}
use Rattle.eval_data.specs.Parts.{here_of}
use Rattle.step_data.specs.declared.assigning.Kept.TheVariants.{Joined}
use Rattle.step_data.specs.Goals.{goal_view, kept_then}
use Rattle.goal_steps.proofs.Joining.{one_joined}
use Rattle.goal_steps.proofs.Moving.{at_all}
use Rattle.goal_steps.proofs.together.assign_variable.Goals as goal

pub returns-in-Variable-clause-same : goal.returns-in-Variable-clause-same
returns-in-Variable-clause-same c =
    let here = here_of c.args.here in
    let place = c.args.place in
    let g = goal_view c.args.goal in
    let v = c.in-Variable in
    let given = map target_step_view c.target_steps-steps.result.now in
    let steps = target_steps (target_view c.args.assignment.now.target) in
    let tree = boxed_view c.args.assignment.now.value in
    at_all c.joined.result (λ spec locals. goal_given spec here place g given tree (kept_then spec here place g (Joined c.args.object c.args.pairs c.args.left)) locals)
    (λ spec locals. joined_goal spec here place (Some g) steps tree
    (λ object pair. together spec here place (map assignment_view c.args.left.now) (object_of_first c.args.object object) (c.args.pairs.items ++ pair ∷ [])) locals)
    c.joined.ensures.same
    (λ spec locals. one_joined spec here place tree c.args.object c.args.pairs c.args.left locals c.args.goal v.field-0 v.field-1 v.field-2 given steps v.is c.target_steps-steps.ensures)
