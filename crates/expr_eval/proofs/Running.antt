-- Each step of an evaluation stands where the step before it stood, and weighs less.
use Rattle.std.specs.Borrow.{Bor}
use Rattle.std.proofs.Common.{◌≡◌, ◌≤◌, ◌<◌, ℕ, suc, List, [], ◌∷◌, ◌++◌, length, length-append, Result, Ok, Err, IfOk, refl, ap, arith}
use Rattle.run_journal.specs.declared.answer.Answer.{Answer}
use Rattle.abstract_syntax.specs.Classes.{SpecTree}
use Rattle.abstract_syntax.specs.Expressions.{ExprTree}
use Rattle.expr_tree.specs.View.{view_of}
use Rattle.expr_tree.specs.declared.expr.Expr.{Expr}
use Rattle.plans.specs.Plans.{fail, part, become, bind}
use Rattle.vdm_kinds.specs.declared.halt.OutOfMemory.{OutOfMemory}
use Rattle.vdm_kinds.specs.declared.place.Place.{Place}
use Rattle.node_meaning.specs.Envs.{Locals, Here, at}
use Rattle.stmt_meaning.specs.TaskPlans.{plan_of}
use Rattle.node_meaning.specs.Tasks.{expr_in, Code, placed, spent}
use Rattle.eval_data.specs.declared.flow.Flow.{Flow}
use Rattle.eval_data.specs.declared.frame.Frame.{Frame}
use Rattle.eval_data.specs.declared.frame.Level.{Level}
use Rattle.eval_data.specs.declared.nest.Nest.{Nest}
use Rattle.eval_data.specs.declared.here.Here.{Here as HereOf}
use Rattle.eval_data.specs.declared.step.Step.{Step}
use Rattle.eval_data.specs.declared.frame.Frame.TheVariants.{Cut}
use Rattle.eval_data.specs.declared.step.Step.TheVariants.{Finish, Fail, Part, Test, Become, Need}
use Rattle.eval_data.specs.declared.test_part.TestPart.{TestPart}
use Rattle.eval_data.specs.Parts.{flow_of, here_of, nest_of}
use Rattle.eval_data.specs.Steps.{frame_then, level_then}
use Rattle.expr_eval.specs.declared.doing.Doing.{Doing}
use Rattle.expr_eval.specs.Evaluations.{of_evaluator, comes_to, alone, placed_code, stands}
use Rattle.expr_eval.specs.Weights.{weight, load}
use Rattle.expr_eval.proofs.Resting.{finish-goes_on, bind-waits, part-enters, become-enters, part-spent, become-spent}

-- what an evaluation comes to by a step, with the frames, the locals and the units after it
abbrev Comes : SpecTree → Place → List Level → Locals → ℕ → Code → List Level → ℕ → Result Doing OutOfMemory → Type 0
Comes spec place now locals left code frames units r =
    IfOk r (λ d. (answers : List Answer) → stands spec place now (placed_code (of_evaluator spec) d.nest locals d.step) answers left ≡ stands spec place frames code answers units)

-- the step of a node that is known
abbrev Known : SpecTree → Here → Locals → Locals → ExprTree → Result Doing OutOfMemory → Type 0
Known spec here before after tree r =
    IfOk r (λ d. placed_code (of_evaluator spec) d.nest after d.step ≡ plan_of (of_evaluator spec) (expr_in (at here before) tree))

module _ (spec : SpecTree) (place : Place) (frames : List Level) where
  -- a part whose step is known, where its level waits
  pub entered : (now : List Level) (level : Level) (here : Here) (before after : Locals) (tree : ExprTree) (units left : ℕ) (r : Result Doing OutOfMemory)
      → units ≡ suc left → now ≡ frames ++ level ∷ [] → Known spec here before after tree r
      → Comes spec place now after left (part (expr_in (at here before) tree) (level_then (of_evaluator spec) level)) frames units r
  entered now level here before after tree units left (Ok d) e n h = λ answers. rw (e, n, h) (part-enters spec place frames level (expr_in (at here before) tree) answers left)
  entered now level here before after tree units left (Err x) e n h = tt

  pub begun : (here : Here) (before after : Locals) (tree : ExprTree) (units left : ℕ) (r : Result Doing OutOfMemory)
      → units ≡ suc left → Known spec here before after tree r
      → Comes spec place frames after left (become (expr_in (at here before) tree)) frames units r
  begun here before after tree units left (Ok d) e h = λ answers. rw (e, h) (become-enters spec place frames (expr_in (at here before) tree) answers left)
  begun here before after tree units left (Err x) e h = tt

  -- one that finds no unit
  pub spent_fails : (level : Level) (here : Here) (locals : Locals) (tree : ExprTree) (code : Code) (units : ℕ) (answers : List Answer)
      → units ≡ 0 → code ≡ fail (spent (expr_in (at here locals) tree))
      → stands spec place frames code answers units ≡ stands spec place frames (part (expr_in (at here locals) tree) (level_then (of_evaluator spec) level)) answers units
  spent_fails level here locals tree code units answers e f = rw (e, f) (part-spent spec place frames (level_then (of_evaluator spec) level) (expr_in (at here locals) tree) answers)

  pub spent_becomes : (here : Here) (locals : Locals) (tree : ExprTree) (code : Code) (units : ℕ) (answers : List Answer)
      → units ≡ 0 → code ≡ fail (spent (expr_in (at here locals) tree))
      → stands spec place frames code answers units ≡ stands spec place frames (become (expr_in (at here locals) tree)) answers units
  spent_becomes here locals tree code units answers e f = rw (e, f) (become-spent spec place frames (expr_in (at here locals) tree) answers)

  -- what comes of a test goes to its outer frame
  pub tested : (now : List Level) (nest : Nest) (locals : Locals) (test one two : TestPart) (inner outer : Frame) (answers : List Answer) (units : ℕ)
      → outer ≡ test.outer → one ≡ record test { outer = Cut 0 } → inner ≡ one.inner → two ≡ record one { inner = Cut 0 }
      → now ≡ frames ++ record { nest = nest; frame = outer } ∷ []
      → stands spec place now (placed_code (of_evaluator spec) nest locals (Part two.here two.tree inner)) answers units
      ≡ stands spec place frames
      (placed (nest_of nest)
      (bind (part (expr_in (at (here_of test.here) locals) (view_of test.tree.now)) (frame_then (of_evaluator spec) test.inner))
      (frame_then (of_evaluator spec) test.outer))) answers units
  tested now nest locals test one two inner outer answers units o a i b n =
      rw (n, b, i, a, o)
      (bind-waits spec place frames (record { nest = nest; frame = test.outer })
      (part (expr_in (at (here_of test.here) locals) (view_of test.tree.now)) (frame_then (of_evaluator spec) test.inner)) answers units)

  -- a result goes to what waits for it
  pub popped : (left : List Level) (before after : Locals) (level : Level) (flow : Flow) (nest : Nest) (step : Step) (next : Doing) (units : ℕ) (answers : List Answer)
      → frames ≡ left ++ level ∷ [] → step ≡ Finish flow
      → placed_code (of_evaluator spec) next.nest after next.step ≡ level_then (of_evaluator spec) level (flow_of flow before)
      → stands spec place left (placed_code (of_evaluator spec) next.nest after next.step) answers units ≡ stands spec place frames (placed_code (of_evaluator spec) nest before step) answers units
  popped left before after level flow nest step next units answers e is h = rw (e, is, h) (finish-goes_on spec place left level (flow_of flow before) answers units)

  -- with no frame it is the result of the whole
  pub ended : (locals : Locals) (flow : Flow) (nest : Nest) (step : Step) (answers : List Answer) (units : ℕ) → step ≡ Finish flow → frames ≡ []
      → comes_to spec (alone place (flow_of flow locals)) answers units ≡ stands spec place frames (placed_code (of_evaluator spec) nest locals step) answers units
  ended locals flow nest step answers units is none = rw (is, none) refl

-- ---- weights

pub weight-le : (s : Step) → weight s ≤ 6
weight-le (Finish flow) = omega arith
weight-le (Fail kind place) = omega arith
weight-le (Part here tree frame) = omega arith
weight-le (Test test) = omega arith
weight-le (Become here tree) = omega arith
weight-le (Need need place after) = omega arith

pub entered-low : (frames now : List Level) (level : Level) (units left : ℕ) (r : Result Doing OutOfMemory)
    → units ≡ suc left → now ≡ frames ++ level ∷ [] → IfOk r (λ d. load now left (weight d.step) < load frames units 2)
entered-low frames now level units left (Ok d) e n = omega (arith, weight-le d.step, ap (λ fs. length fs) n, length-append frames (level ∷ []))
entered-low frames now level units left (Err x) e n = tt

pub begun-low : (frames : List Level) (units left : ℕ) (r : Result Doing OutOfMemory)
    → units ≡ suc left → IfOk r (λ d. load frames left (weight d.step) < load frames units 2)
begun-low frames units left (Ok d) e = omega (arith, weight-le d.step)
begun-low frames units left (Err x) e = tt

pub spent-low : (frames : List Level) (units n : ℕ) → n ≡ 1 → load frames units n < load frames units 2
spent-low frames units n e = omega (arith, e)

pub tested-low : (frames now : List Level) (level : Level) (units : ℕ) → now ≡ frames ++ level ∷ [] → load now units 2 < load frames units 6
tested-low frames now level units n = omega (arith, ap (λ fs. length fs) n, length-append frames (level ∷ []))

pub popped-low : (frames left : List Level) (level : Level) (flow : Flow) (step next : Step) (units : ℕ)
    → frames ≡ left ++ level ∷ [] → step ≡ Finish flow → load left units (weight next) < load frames units (weight step)
popped-low frames left level flow step next units e is = omega (arith, weight-le next, ap (λ fs. length fs) e, length-append left (level ∷ []), ap weight is)

-- a step whose weight is known
pub lower : (frames : List Level) (units n known : ℕ) (step : Step) → weight step ≡ known → n < load frames units known → n < load frames units (weight step)
lower frames units n known step is low = omega (arith, is, low)

pub no_higher : (n middle bound : ℕ) → n < middle → middle ≤ bound → n ≤ bound
no_higher n middle bound low below = omega (arith, low, below)
