use Rattle.std.proofs.Common.{[], ◌∷◌, ◌++◌, ◌-◌, List, Option, Some, map, option_map, length, take, drop, ap, ◌∙◌}
use Rattle.expr_tree.specs.View.{boxed_view}
use Rattle.vdm_tree.specs.StmtView.{assignment_view, target_view}
use Rattle.vdm_tree.specs.declared.target.Assignment.{Assignment}
use Rattle.spec_table.specs.Tables.{table_spec}
use Rattle.stmt_meaning.specs.Targets.{Goal, joined_goal, object_of_first, target_steps, together}
use Rattle.eval_data.specs.Parts.{here_of}
use Rattle.step_data.specs.Goals.{goal_view}
use Rattle.goal_steps.proofs.Joining.{first_and_rest}
use Rattle.goal_steps.proofs.Moving.{at_this}
use Rattle.goal_steps.proofs.together.together.Goals as goal

pub returns-in_ok-goal-in-len1-up-clause-same : goal.returns-in_ok-goal-in-len1-up-clause-same
returns-in_ok-goal-in-len1-up-clause-same c =
    let spec = table_spec c.args.table.now in
    let here = here_of c.args.here in
    let place = c.args.place in
    let all = c.args.assignments.now in
    let first = c.assignment-item.result in
    let rest = take (length all - 1) (drop 1 all) in
    let pairs = c.args.pairs.items in
    let steps = target_steps (target_view first.target) in
    let tree = boxed_view first.value in
    at_this c.assign_one.result spec
    (λ s locals. joined_goal s here place (option_map goal_view c.in_ok-goal-in-len1-up.goal) steps tree
    (λ object pair. together s here place (map assignment_view rest) (object_of_first c.args.object object) (pairs ++ pair ∷ [])) locals)
    (λ locals. together spec here place (map assignment_view all) c.args.object pairs locals)
    c.assign_one.ensures.same
    (λ locals. ap (λ (g : Option Goal). joined_goal spec here place g steps tree
    (λ object pair. together spec here place (map assignment_view rest) (object_of_first c.args.object object) (pairs ++ pair ∷ [])) locals) c.in_ok-goal-in-len1-up.ensures
    ∙ ap (λ (xs : List Assignment). together spec here place (map assignment_view xs) c.args.object pairs locals)
    (first_and_rest all first c.in-len1-up.len_at_least c.assignment-item.is))
