-- Assignments as they begin and go on.
use Rattle.std.proofs.Common.{◌≡◌, ◌≤◌, ◌<◌, List, [], ◌∷◌, ◌++◌, map, length, refl, ap, ◌∙◌, arith}
use Rattle.std.specs.Borrow.{Bor}
use Rattle.vdm_kinds.specs.declared.place.Place.{Place}
use Rattle.abstract_syntax.specs.Classes.{SpecTree}
use Rattle.abstract_syntax.specs.Expressions.{ExprTree}
use Rattle.abstract_syntax.specs.Values.{ValueTree}
use Rattle.expr_tree.specs.View.{boxed_view}
use Rattle.vdm_tree.specs.StmtView.{target_step_view}
use Rattle.vdm_tree.specs.declared.target.TargetStep.{TargetStep}
use Rattle.plans.specs.Plans.{part}
use Rattle.node_meaning.specs.Envs.{Here as MeantHere, Locals, at}
use Rattle.node_meaning.specs.Matching.{exprs_of}
use Rattle.node_meaning.specs.Strict.{collected, with_others}
use Rattle.node_meaning.specs.Tasks.{Code, evaluated, expr_in, with_value}
use Rattle.stmt_meaning.specs.Targets.{Goal as MeantGoal, goal_changed, goal_given, goal_typed, indices}
use Rattle.eval_data.specs.declared.here.Here.{Here}
use Rattle.eval_data.specs.Parts.{here_of}
use Rattle.step_data.specs.declared.assigning.Assigning.{Assigning}
use Rattle.step_data.specs.declared.assigning.Kept.{Kept}
use Rattle.step_data.specs.declared.goal.Goal.{Goal}
use Rattle.step_data.specs.Goals.{goal_view, index_then, join_then, kept_then, kept_with, steps_of}
use Rattle.goal_steps.specs.declared.parts.NextPart.{NextPart}
use Rattle.goal_steps.specs.Beginnings.{Begun}
use Rattle.goal_steps.specs.Parts.{part_exprs}

-- the expression that comes next, where what stands behind it is left
pub part_evaluated : (spec : SpecTree) (locals : Locals) (a b : Assigning) (p : NextPart) → b ≡ record a { left = p.left; value = p.value }
    → part (expr_in (at (here_of a.here) locals) (boxed_view p.tree.now)) (index_then spec b)
    ≡ collected (here_of a.here) a.place (exprs_of (part_exprs p)) a.done.items
    (goal_changed spec (here_of a.here) a.place (goal_view a.goal) (steps_of a) (kept_with spec a)) locals
part_evaluated spec locals a b p e = ap (λ (x : Assigning). part (expr_in (at (here_of a.here) locals) (boxed_view p.tree.now)) (index_then spec x)) e

module _ (spec : SpecTree) (a : Assigning) (h : Here) (p : Place) (g : Goal) (s : Bor (List TargetStep)) (k : Kept) (begun : Begun a h p g s k) where
  -- an assignment to a part, of which no value came yet
  pub begun_into : (trees : List ExprTree) (locals : Locals)
      → collected (here_of a.here) a.place (exprs_of trees) a.done.items
      (goal_changed spec (here_of a.here) a.place (goal_view a.goal) (steps_of a) (kept_with spec a)) locals
      ≡ collected (here_of h) p (exprs_of trees) []
      (goal_changed spec (here_of h) p (goal_view g) (map target_step_view s.now) (kept_then spec (here_of h) p (goal_view g) k)) locals
  begun_into trees locals = λ i.
      collected (here_of (begun.here i)) (begun.place i) (exprs_of trees) (begun.done i)
      (goal_changed spec (here_of (begun.here i)) (begun.place i) (goal_view (begun.goal i)) (map target_step_view (begun.steps i).now)
      (kept_then spec (here_of (begun.here i)) (begun.place i) (goal_view (begun.goal i)) (begun.kept i))) locals

  -- ... and one to a whole variable
  pub begun_whole : join_then spec a ≡ with_value p (goal_typed spec (here_of h) p (goal_view g) (kept_then spec (here_of h) p (goal_view g) k))
  begun_whole = λ i.
      with_value (begun.place i)
      (goal_typed spec (here_of (begun.here i)) (begun.place i) (goal_view (begun.goal i))
      (kept_then spec (here_of (begun.here i)) (begun.place i) (goal_view (begun.goal i)) (begun.kept i)))

module _ (spec : SpecTree) (here : MeantHere) (place : Place) (goal : MeantGoal) (tree : ExprTree) (further : ValueTree → Locals → Code) (locals : Locals) where
  pub given_into : (steps : List TargetStep) → 1 ≤ length steps
      → collected here place (exprs_of (indices (map target_step_view steps) ++ tree ∷ [])) []
      (goal_changed spec here place goal (map target_step_view steps) further) locals
      ≡ goal_given spec here place goal (map target_step_view steps) tree further locals
  given_into [] some = absurd (omega (arith, some))
  given_into (step ∷ steps) some = refl

  pub given_whole : (steps : List TargetStep) → length steps < 1
      → evaluated here locals tree place (goal_typed spec here place goal further) ≡ goal_given spec here place goal (map target_step_view steps) tree further locals
  given_whole [] none = refl
  given_whole (step ∷ steps) none = absurd (omega (arith, none))

-- one value more came
module _ (spec : SpecTree) (a b : Assigning) (v : ValueTree) (locals : Locals) (kept : b ≡ record a { done = b.done }) (added : b.done.items ≡ a.done.items ++ v ∷ []) where
  pub given_further : (trees : List ExprTree)
      → collected (here_of b.here) b.place (exprs_of trees) b.done.items
      (goal_changed spec (here_of b.here) b.place (goal_view b.goal) (steps_of b) (kept_with spec b)) locals
      ≡ with_others (here_of a.here) a.place (exprs_of trees) a.done.items
      (goal_changed spec (here_of a.here) a.place (goal_view a.goal) (steps_of a) (kept_with spec a)) v locals
  given_further trees =
      ap (λ (x : Assigning). collected (here_of x.here) x.place (exprs_of trees) b.done.items
      (goal_changed spec (here_of x.here) x.place (goal_view x.goal) (steps_of x) (kept_with spec x)) locals) kept
      ∙ ap (λ (done : List ValueTree). collected (here_of a.here) a.place (exprs_of trees) done
      (goal_changed spec (here_of a.here) a.place (goal_view a.goal) (steps_of a) (kept_with spec a)) locals) added
