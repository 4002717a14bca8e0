-- Where an evaluation stands under its frames.
use Rattle.std.proofs.Common.{◌≡◌, ℕ, suc, List, [], ◌∷◌, ◌++◌, refl, ap, sym, ◌∙◌}
use Rattle.run_journal.specs.declared.answer.Answer.{Answer}
use Rattle.abstract_syntax.specs.Classes.{SpecTree}
use Rattle.plans.specs.Plans.{gives, faults, needs, onward, finish, fail, ask, part, become, meaning, bind}
use Rattle.plans.proofs.Binding.{run-bind}
use Rattle.plans.proofs.Levels.{meaning-suc, meaning-zero}
use Rattle.vdm_kinds.specs.declared.place.Place.{Place}
use Rattle.node_meaning.specs.Envs.{Nest}
use Rattle.node_meaning.specs.Faults.{Fault}
use Rattle.node_meaning.specs.Tasks.{Task, Flow, Query, Code, placed, spent}
use Rattle.stmt_meaning.specs.TaskPlans.{plan_of}
use Rattle.eval_data.specs.declared.frame.Level.{Level}
use Rattle.eval_data.specs.Parts.{nest_of}
use Rattle.eval_data.specs.Steps.{frame_then, level_then}
use Rattle.expr_eval.specs.Evaluations.{of_evaluator, Evaluated, comes_to, unwind, whole, stands}

-- the faults of a plan with another on its result stand where those of both stand
pub placed-bind : (nest : Nest) (code : Code) (further : Flow → Code) → placed nest (bind code further) ≡ bind (placed nest code) (λ flow. placed nest (further flow))
placed-bind nest (finish flow) further = refl
placed-bind nest (fail f) further = refl
placed-bind nest (ask query after) further = λ i. ask query (λ answer. placed-bind nest (after answer) further i)
placed-bind nest (part task after) further = λ i. part task (λ flow. placed-bind nest (after flow) further i)
placed-bind nest (become task) further = refl

module _ (spec : SpecTree) where
  unwind-needs : (frames : List Level) (q : Query) → unwind spec frames (needs q) ≡ needs q
  unwind-needs [] q = refl
  unwind-needs (level ∷ frames) q = ap (λ o. onward o (λ r. comes_to spec (level_then (of_evaluator spec) level r))) (unwind-needs frames q)

  unwind-faults : (frames : List Level) (f : Fault) (answers : List Answer) → unwind spec frames (faults f answers) ≡ faults f answers
  unwind-faults [] f answers = refl
  unwind-faults (level ∷ frames) f answers = ap (λ o. onward o (λ r. comes_to spec (level_then (of_evaluator spec) level r))) (unwind-faults frames f answers)

  -- the innermost stands last
  unwind-push : (frames : List Level) (level : Level) (o : Evaluated)
      → unwind spec (frames ++ level ∷ []) o ≡ unwind spec frames (onward o (λ r. comes_to spec (level_then (of_evaluator spec) level r)))
  unwind-push [] level o = refl
  unwind-push (first ∷ frames) level o = ap (λ o. onward o (λ r. comes_to spec (level_then (of_evaluator spec) first r))) (unwind-push frames level o)

module _ (spec : SpecTree) (place : Place) (frames : List Level) where
  -- what is needed is needed whatever waits
  pub asking-needs : (q : Query) (further : Answer → Code) (units : ℕ) → stands spec place frames (ask q further) [] units ≡ needs q
  asking-needs q further units = ap (whole spec place) (unwind-needs spec frames q)

  -- so is a fault
  pub failing-faults : (f : Fault) (answers : List Answer) (units : ℕ) → stands spec place frames (fail f) answers units ≡ faults f answers
  failing-faults f answers units = ap (whole spec place) (unwind-faults spec frames f answers)

  -- a result goes to the level that waits innermost
  pub finish-goes_on : (level : Level) (flow : Flow) (answers : List Answer) (units : ℕ)
      → stands spec place frames (level_then (of_evaluator spec) level flow) answers units ≡ stands spec place (frames ++ level ∷ []) (finish flow) answers units
  finish-goes_on level flow answers units = ap (whole spec place) (sym (unwind-push spec frames level (gives flow answers units)))

  -- what follows a plan may wait for it
  pub bind-waits : (level : Level) (code : Code) (answers : List Answer) (units : ℕ)
      → stands spec place (frames ++ level ∷ []) (placed (nest_of level.nest) code) answers units
      ≡ stands spec place frames (placed (nest_of level.nest) (bind code (frame_then (of_evaluator spec) level.frame))) answers units
  bind-waits level code answers units =
      ap (whole spec place) (unwind-push spec frames level (comes_to spec (placed (nest_of level.nest) code) answers units)
      ∙ ap (unwind spec frames) (sym (ap (λ c. comes_to spec c answers units) (placed-bind (nest_of level.nest) code (frame_then (of_evaluator spec) level.frame))
      ∙ run-bind (meaning (plan_of (of_evaluator spec)) spent) (placed (nest_of level.nest) code) (level_then (of_evaluator spec) level) answers units)))

  -- a part is entered with its unit, where its level waits
  pub part-enters : (level : Level) (task : Task) (answers : List Answer) (units : ℕ)
      → stands spec place (frames ++ level ∷ []) (plan_of (of_evaluator spec) task) answers units
      ≡ stands spec place frames (part task (level_then (of_evaluator spec) level)) answers (suc units)
  part-enters level task answers units =
      ap (whole spec place) (unwind-push spec frames level (comes_to spec (plan_of (of_evaluator spec) task) answers units)
      ∙ ap (λ o. unwind spec frames (onward o (λ r. comes_to spec (level_then (of_evaluator spec) level r)))) (sym (meaning-suc (plan_of (of_evaluator spec)) spent task answers units)))

  -- one in the stead of a node
  pub become-enters : (task : Task) (answers : List Answer) (units : ℕ)
      → stands spec place frames (plan_of (of_evaluator spec) task) answers units ≡ stands spec place frames (become task) answers (suc units)
  become-enters task answers units =
      ap (λ o. whole spec place (unwind spec frames o)) (sym (meaning-suc (plan_of (of_evaluator spec)) spent task answers units))

  -- without a unit they fail
  pub part-spent : (further : Flow → Code) (task : Task) (answers : List Answer)
      → stands spec place frames (fail (spent task)) answers 0 ≡ stands spec place frames (part task further) answers 0
  part-spent further task answers =
      ap (λ o. whole spec place (unwind spec frames (onward o (λ r. comes_to spec (further r))))) (sym (meaning-zero (plan_of (of_evaluator spec)) spent task answers))

  pub become-spent : (task : Task) (answers : List Answer)
      → stands spec place frames (fail (spent task)) answers 0 ≡ stands spec place frames (become task) answers 0
  become-spent task answers =
      ap (λ o. whole spec place (unwind spec frames o)) (sym (meaning-zero (plan_of (of_evaluator spec)) spent task answers))
