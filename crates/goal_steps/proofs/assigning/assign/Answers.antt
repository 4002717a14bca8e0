use Rattle.std.proofs.Common.{Option, option_map, map, ap, sym, ◌∙◌, [], ◌∷◌, ◌++◌}
use Rattle.expr_tree.specs.View.{boxed_view}
use Rattle.vdm_tree.specs.StmtView.{target_step_view}
use Rattle.node_meaning.specs.Matching.{exprs_of}
use Rattle.node_meaning.specs.Strict.{collected}
use Rattle.stmt_meaning.specs.Targets.{assigned, goal_changed, indices, stored}
use Rattle.eval_data.specs.Parts.{here_of}
use Rattle.step_data.specs.declared.goal.Goal.{Goal}
use Rattle.step_data.specs.Goals.{goal_view}
use Rattle.goal_steps.proofs.Beginning.{given_into}
use Rattle.goal_steps.proofs.Moving.{at_all}
use Rattle.goal_steps.proofs.assigning.assign.Goals as goal

pub returns-in-len1-up-clause-same : goal.returns-in-len1-up-clause-same
returns-in-len1-up-clause-same c =
    let here = here_of c.args.here in
    let place = c.args.place in
    let g = goal_view c.in-Some.goal in
    let steps = map target_step_view c.args.steps.now in
    let tree = boxed_view c.args.value.now in
    at_all c.into_goal.result (λ spec locals. collected here place (exprs_of (indices steps ++ tree ∷ [])) [] (goal_changed spec here place g steps (stored place g)) locals)
    (λ spec locals. assigned spec here place (option_map goal_view c.args.goal) steps tree locals) c.into_goal.ensures.same
    (λ spec locals. given_into spec here place g tree (stored place g) locals c.args.steps.now c.in-len1-up.len_at_least
    ∙ ap (λ (o : Option Goal). assigned spec here place (option_map goal_view o) steps tree locals) (sym c.in-Some.is))
