use Rattle.std.proofs.Common.{◌≡◌, ◌++◌, List, [], ◌∷◌, map, ap, ◌∙◌}
use Rattle.abstract_syntax.specs.Expressions.{ExprTree}
use Rattle.vdm_tree.specs.StmtView.{target_step_view}
use Rattle.spec_table.specs.Tables.{table_spec}
use Rattle.node_meaning.specs.Matching.{exprs_of}
use Rattle.node_meaning.specs.Strict.{collected, with_others}
use Rattle.stmt_meaning.specs.Targets.{goal_changed, indices}
use Rattle.eval_data.specs.Parts.{here_of}
use Rattle.step_data.specs.declared.assigning.Assigning.{Assigning}
use Rattle.step_data.specs.Goals.{exprs_left, goal_view, kept_with, steps_of, value_left}
use Rattle.goal_steps.specs.Parts.{part_exprs}
use Rattle.goal_steps.proofs.Beginning.{given_further}
use Rattle.goal_steps.proofs.Moving.{moved}
use Rattle.goal_steps.proofs.indexing.index_given.Goals as goal

pub returns-in-Some-clause-same : goal.returns-in-Some-clause-same
returns-in-Some-clause-same c =
    let spec = table_spec c.args.table.now in
    let locals = c.args.locals.now.items in
    let a = c.args.assigning.value in
    let b = c.add_done.new.assigning in
    let kept : b ≡ record a { done = b.done } = c.add_done.ensures.kept ∙ ap (λ (x : Assigning). record x { done = b.done }) c.deref_mut.ensures.value in
    let added : b.done.items ≡ a.done.items ++ c.args.value ∷ [] =
    c.in_ok-add_done.ensures.added ∙ ap (λ (x : Assigning). x.done.items ++ c.args.value ∷ []) c.deref_mut.ensures.value in
    let left : part_exprs c.in-Some.part ≡ exprs_left a =
    c.in-Some.ensures
    ∙ (λ i. indices (map target_step_view (c.deref.ensures i).left.now) ++ value_left (c.deref-2.ensures i).value)
    ∙ ap exprs_left kept in
    c.evaluating.ensures.same spec locals
    ∙ ap (λ (trees : List ExprTree). collected (here_of b.here) b.place (exprs_of trees) b.done.items
    (goal_changed spec (here_of b.here) b.place (goal_view b.goal) (steps_of b) (kept_with spec b)) locals) left
    ∙ given_further spec a b c.args.value locals kept added (exprs_left a)

pub returns-in-None-clause-same : goal.returns-in-None-clause-same
returns-in-None-clause-same c =
    let spec = table_spec c.args.table.now in
    let locals = c.args.locals.now.items in
    let a = c.args.assigning.value in
    let b = c.add_done.new.assigning in
    let kept : b ≡ record a { done = b.done } = c.add_done.ensures.kept ∙ ap (λ (x : Assigning). record x { done = b.done }) c.deref_mut.ensures.value in
    let added : b.done.items ≡ a.done.items ++ c.args.value ∷ [] =
    c.in_ok-add_done.ensures.added ∙ ap (λ (x : Assigning). x.done.items ++ c.args.value ∷ []) c.deref_mut.ensures.value in
    let none : [] ≡ exprs_left a =
    c.in-None.ensures
    ∙ (λ i. indices (map target_step_view (c.deref.ensures i).left.now) ++ value_left (c.deref-2.ensures i).value)
    ∙ ap exprs_left kept in
    moved c.goal_changed.new.locals.items c.goal_changed.result spec
    (goal_changed spec (here_of b.here) b.place (goal_view b.goal) (steps_of b) (kept_with spec b) b.done.items locals)
    (with_others (here_of a.here) a.place (exprs_of (exprs_left a)) a.done.items
    (goal_changed spec (here_of a.here) a.place (goal_view a.goal) (steps_of a) (kept_with spec a)) c.args.value locals)
    c.goal_changed.ensures.same
    (ap (λ (trees : List ExprTree). collected (here_of b.here) b.place (exprs_of trees) b.done.items
    (goal_changed spec (here_of b.here) b.place (goal_view b.goal) (steps_of b) (kept_with spec b)) locals) none
    ∙ given_further spec a b c.args.value locals kept added (exprs_left a))
