use Rattle.std.proofs.Common.{map, [], ◌∷◌, ◌++◌}
use Rattle.expr_tree.specs.View.{boxed_view}
use Rattle.vdm_tree.specs.StmtView.{target_step_view}
use Rattle.node_meaning.specs.Matching.{exprs_of}
use Rattle.node_meaning.specs.Strict.{collected}
use Rattle.node_meaning.specs.Tasks.{evaluated}
use Rattle.stmt_meaning.specs.Targets.{goal_changed, goal_given, goal_typed, indices}
use Rattle.eval_data.specs.Parts.{here_of}
use Rattle.step_data.specs.Goals.{goal_view, kept_then}
use Rattle.goal_steps.proofs.Beginning.{given_into, given_whole}
use Rattle.goal_steps.proofs.Moving.{at_all}
use Rattle.goal_steps.proofs.assigning.joined.Goals as goal

pub returns-in-empty-clause-same : goal.returns-in-empty-clause-same
returns-in-empty-clause-same c =
    let here = here_of c.args.here in
    let place = c.args.place in
    let g = goal_view c.args.goal in
    let steps = map target_step_view c.args.steps.now in
    let tree = boxed_view c.args.value.now in
    at_all c.whole_goal.result (λ spec locals. evaluated here locals tree place (goal_typed spec here place g (kept_then spec here place g c.args.kept)))
    (λ spec locals. goal_given spec here place g steps tree (kept_then spec here place g c.args.kept) locals) c.whole_goal.ensures.same
    (λ spec locals. given_whole spec here place g tree (kept_then spec here place g c.args.kept) locals c.args.steps.now c.in-empty.len_below)

pub returns-in-len1-up-clause-same : goal.returns-in-len1-up-clause-same
returns-in-len1-up-clause-same c =
    let here = here_of c.args.here in
    let place = c.args.place in
    let g = goal_view c.args.goal in
    let steps = map target_step_view c.args.steps.now in
    let tree = boxed_view c.args.value.now in
    at_all c.into_goal.result (λ spec locals. collected here place (exprs_of (indices steps ++ tree ∷ [])) [] (goal_changed spec here place g steps (kept_then spec here place g c.args.kept)) locals)
    (λ spec locals. goal_given spec here place g steps tree (kept_then spec here place g c.args.kept) locals) c.into_goal.ensures.same
    (λ spec locals. given_into spec here place g tree (kept_then spec here place g c.args.kept) locals c.args.steps.now c.in-len1-up.len_at_least)
