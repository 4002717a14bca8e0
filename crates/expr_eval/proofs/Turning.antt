-- What turns say.
use Rattle.std.proofs.Common.{◌≡◌, ◌≤◌, ◌<◌, ℕ, List, [], ◌∷◌, Result, Ok, Err, IfOk, refl, ap, ◌∙◌, arith}
use Rattle.vdm_kinds.specs.declared.halt.Halt.{Halt}
use Rattle.vdm_kinds.specs.declared.halt.OutOfMemory.{OutOfMemory}
use Rattle.vdm_kinds.specs.declared.place.Place.{Place}
use Rattle.vdm_kinds.specs.declared.run_fault.RunFault.{RunFault}
use Rattle.abstract_syntax.specs.Classes.{SpecTree}
use Rattle.abstract_syntax.specs.Expressions.{ExprTree, expr_place}
use Rattle.abstract_syntax.specs.Values.{ValueTree}
use Rattle.run_journal.specs.declared.answer.Answer.{Answer}
use Rattle.run_journal.specs.declared.answer.Answer.TheVariants.{Slot as Holds}
use Rattle.plans.specs.Plans.{become}
use Rattle.node_meaning.specs.Envs.{Locals, Here, at}
use Rattle.node_meaning.specs.Needs.{slot_then}
use Rattle.node_meaning.specs.Tasks.{expr_in, needed, placed}
use Rattle.spec_table.specs.Tables.{table_spec}
use Rattle.eval_data.specs.declared.frame.After.{After}
use Rattle.eval_data.specs.declared.frame.Level.{Level}
use Rattle.eval_data.specs.declared.need.Need.{Need}
use Rattle.eval_data.specs.declared.nest.Nest.{Nest}
use Rattle.eval_data.specs.declared.step.Step.{Step}
use Rattle.eval_data.specs.declared.step.Step.TheVariants.{Finish, Fail, Part, Test, Become, Need as NeedStep}
use Rattle.eval_data.specs.Parts.{nest_of, need_of}
use Rattle.eval_data.specs.Steps.{after_need, IsLight}
use Rattle.expr_eval.specs.declared.doing.Doing.{Doing}
use Rattle.expr_eval.specs.declared.env.Env.{Env}
use Rattle.expr_eval.specs.declared.eval.Eval.{Eval}
use Rattle.expr_eval.specs.declared.eval.Next.TheVariants.{Step as Does, Waits}
use Rattle.expr_eval.specs.declared.eval.Reached.{Reached}
use Rattle.expr_eval.specs.declared.eval.Reached.TheVariants.{Needs as ReachedNeed}
use Rattle.expr_eval.specs.declared.turn.Turn.{Turn}
use Rattle.expr_eval.specs.declared.turn.Turn.TheVariants.{Needs, Value, Fault}
use Rattle.expr_eval.specs.Evaluations.{Evaluated, stands, evaluation, here_in, locals_in, pure_fault, PureResult}
use Rattle.expr_eval.specs.Turns.{stands_with, rest_at, rest, rests, Asks, Turned, pure_turn}
use Rattle.expr_eval.specs.Weights.{weight, next_weight, rank}
use Rattle.expr_eval.proofs.Resting.{asking-needs}

-- ---- the beginning

pub begins : (spec : SpecTree) (env : Env) (depth : ℕ) (tree : ExprTree) (here : Here) (locals : Locals) (place : Place) (frames : List Level) (answers : List Answer) (units : ℕ)
    → frames ≡ [] → here ≡ here_in env depth → locals ≡ locals_in env → place ≡ expr_place tree
    → stands spec place frames (become (expr_in (at here locals) tree)) answers units ≡ evaluation spec env depth tree answers units
begins spec env depth tree here locals place frames answers units f h l p = rw (f, h, l, p) refl

-- ---- the step that is next

pub does : (e : Eval) (doing : Doing) (answers : List Answer) (units : ℕ) → e.next ≡ Does doing → rest e answers units ≡ stands_with e doing.nest doing.step answers units
does e doing answers units is = ap (λ n. rest_at e n answers units) is

-- ---- turns

-- a need that is open
pub asks : (old new : Eval) (reached : Reached) (need : Need) (nest : Nest) (place : Place) (after : After) (units : ℕ)
    → reached ≡ ReachedNeed need nest place after → new ≡ record old { next = Waits nest after place }
    → Asks (need_of need) (λ answers. rests old reached answers units) new units
asks old new reached need nest place after units is e = rw (is, e) (record {
  needs_it = asking-needs (table_spec old.table.now) old.place old.frames.items (needed (need_of need)) (λ answer. placed (nest_of nest) (slot_then (after_need after place) old.locals.items answer)) units;
  goes_on = λ slot answers. refl;
  waits = tt;
})

-- a turn says the same of what always comes to the same
pub turned_as : (turn : Turn) (stood before : List Answer → Evaluated) (e : Eval) (units : ℕ)
    → ((answers : List Answer) → before answers ≡ stood answers) → Turned turn stood e units → Turned turn before e units
turned_as (Needs need) stood before e units same t = record {
  needs_it = same [] ∙ t.needs_it;
  goes_on = λ slot answers. same (Holds slot ∷ answers) ∙ t.goes_on slot answers;
  waits = t.waits;
}
turned_as (Value v) stood before e units same t = λ answers. same answers ∙ t answers
turned_as (Fault kind place) stood before e units same t = λ answers. same answers ∙ t answers

pub advanced : (r : Result Turn OutOfMemory) (stood before : List Answer → Evaluated) (e : Eval) (units : ℕ)
    → ((answers : List Answer) → before answers ≡ stood answers)
    → IfOk r (λ turn. Turned turn stood e units) → IfOk r (λ turn. Turned turn before e units)
advanced (Ok turn) stood before e units same t = turned_as turn stood before e units same t
advanced (Err x) stood before e units same t = tt

-- ---- a slot is given

-- what is done with a slot weighs little
light-low : (s : Step) → IsLight s → weight s ≤ 4
light-low (Finish flow) light = omega arith
light-low (Fail kind place) light = omega arith
light-low (Part here tree frame) light = omega arith
light-low (Test test) light = absurd light
light-low (Become here tree) light = absurd light
light-low (NeedStep need place after) light = absurd light

pub given-low : (old new : Eval) (nest : Nest) (after : After) (place : Place) (s : Step) (units : ℕ)
    → old.next ≡ Waits nest after place → new ≡ record old { next = Does (record { nest = nest; step = s }) } → IsLight s
    → rank new units < rank old units
given-low old new nest after place s units waits e light =
    let n : rank new units ≡ rank (record old { next = Does (record { nest = nest; step = s }) }) units = ap (λ (m : Eval). rank m units) e in
    omega (arith, light-low s light, ap next_weight waits, n)

-- ---- an expression that needs nothing

pure_turned : (turn : Turn) (stood : List Answer → Evaluated) (e : Eval) (units : ℕ) → Turned turn stood e units → PureResult (stood []) units (pure_turn turn)
pure_turned (Needs need) stood e units t = ap pure_fault t.needs_it
pure_turned (Value v) stood e units t = (e.locals.items, t [])
pure_turned (Fault kind place) stood e units t = ap pure_fault (t [])

pub pure_result : (turn : Turn) (stood : List Answer → Evaluated) (outcome : Evaluated) (e : Eval) (units : ℕ) (r : Result ValueTree (Halt RunFault))
    → Turned turn stood e units → stood [] ≡ outcome → r ≡ pure_turn turn → PureResult outcome units r
pure_result turn stood outcome e units r t same is = rw (is, ← same) (pure_turned turn stood e units t)
