-- Where an evaluation stands, and what its turns say.
use Rattle.std.specs.Prelude.{◌≡◌, ℕ, List, [], ◌∷◌, Result, Ok, Err}
use Rattle.vdm_kinds.specs.declared.halt.Halt.{Halt}
use Rattle.vdm_kinds.specs.declared.halt.Halt.TheVariants.{Of}
use Rattle.vdm_kinds.specs.declared.run_fault.RunFault.{RunFault}
use Rattle.vdm_kinds.specs.declared.run_fault.RunFault.TheVariants.{Undefined}
use Rattle.vdm_values.specs.declared.slot.Slot.{Slot}
use Rattle.vdm_values.specs.declared.slot.Slot.TheVariants.{Held}
use Rattle.abstract_syntax.specs.Values.{ValueTree}
use Rattle.run_journal.specs.declared.answer.Answer.{Answer}
use Rattle.run_journal.specs.declared.answer.Answer.TheVariants.{Slot as Holds}
use Rattle.plans.specs.Plans.{gives, faults, needs}
use Rattle.node_meaning.specs.Envs.{Locals}
use Rattle.node_meaning.specs.Faults.{fault_at}
use Rattle.node_meaning.specs.Needs.{asked}
use Rattle.node_meaning.specs.Tasks.{gave, Need, needed, Code, placed, fault, value}
use Rattle.spec_table.specs.Tables.{table_spec}
use Rattle.eval_data.specs.declared.nest.Nest.{Nest}
use Rattle.eval_data.specs.declared.step.Step.{Step}
use Rattle.eval_data.specs.Parts.{nest_of, flow_of, need_of}
use Rattle.eval_data.specs.Steps.{after_need}
use Rattle.expr_eval.specs.declared.eval.Eval.{Eval}
use Rattle.expr_eval.specs.declared.eval.Next.{Next}
use Rattle.expr_eval.specs.declared.eval.Next.TheVariants.{Step as Does, Waits, Over, Spent}
use Rattle.expr_eval.specs.declared.eval.Reached.{Reached}
use Rattle.expr_eval.specs.declared.eval.Reached.TheVariants.{Needs as ReachedNeed, Fails, Gives}
use Rattle.expr_eval.specs.declared.turn.Turn.{Turn}
use Rattle.expr_eval.specs.declared.turn.Turn.TheVariants.{Needs, Value, Fault}
use Rattle.expr_eval.specs.Evaluations.{of_evaluator, Evaluated, comes_to, alone, placed_code, stands}

-- ---- where an evaluation stands

-- where it stands that does this step next, of a node inside of these tests
abbrev pub stands_with : Eval → Nest → Step → List Answer → ℕ → Evaluated
stands_with e nest step answers units =
    stands (table_spec e.table.now) e.place e.frames.items (placed_code (of_evaluator (table_spec e.table.now)) nest e.locals.items step) answers units

-- Where it stands with further answers and these units. Of one that waits for a slot, is over or is spent this isn't asked.
abbrev pub rest_at : Eval → Next → List Answer → ℕ → Evaluated
rest_at e (Does doing) answers units = stands_with e doing.nest doing.step answers units
rest_at e _ answers units = faults (fault_at Undefined e.place) answers

abbrev pub rest : Eval → List Answer → ℕ → Evaluated
rest e answers units = rest_at e e.next answers units

-- Where it stands behind the slot for which it waits. Of one that doesn't wait this isn't asked.
abbrev pub behind_at : Eval → Next → Slot → List Answer → ℕ → Evaluated
behind_at e (Waits nest after place) slot answers units =
    stands (table_spec e.table.now) e.place e.frames.items (placed (nest_of nest) (after_need after place (gave slot e.locals.items))) answers units
behind_at e _ slot answers units = faults (fault_at Undefined e.place) answers

abbrev pub behind : Eval → Slot → List Answer → ℕ → Evaluated
behind e slot answers units = behind_at e e.next slot answers units

-- ---- what it is ready for

-- no step is next
abbrev pub IsNoStep : Next → Type 0
IsNoStep (Does doing) = ⊥
IsNoStep (Waits nest after place) = Unit {0}
IsNoStep Over = Unit {0}
IsNoStep Spent = Unit {0}

-- it met want of memory
abbrev pub IsSpent : Eval → Type 0
IsSpent e = e.next ≡ Spent

-- it may go on: it has no open need, and has given no value or fault
abbrev pub MayGoOn : Next → Type 0
MayGoOn (Does doing) = Unit {0}
MayGoOn (Waits nest after place) = ⊥
MayGoOn Over = ⊥
MayGoOn Spent = Unit {0}

abbrev pub IsReady : Eval → Type 0
IsReady e = MayGoOn e.next

-- it may be given a slot: it has an open need
abbrev pub MayTake : Next → Type 0
MayTake (Does doing) = ⊥
MayTake (Waits nest after place) = Unit {0}
MayTake Over = ⊥
MayTake Spent = Unit {0}

abbrev pub IsWaiting : Eval → Type 0
IsWaiting e = MayTake e.next

-- ---- what it came to

-- an evaluation that stood so needs this, and stands behind the slot that answers it where it stood with that answer
pub record Asks (need : Need) (stood : List Answer → Evaluated) (e : Eval) (units : ℕ) : Type 0 where
  pub needs_it : stood [] ≡ needs (needed need)
  pub goes_on : (slot : Slot) (answers : List Answer) → stood (Holds slot ∷ answers) ≡ behind e slot answers units
  pub waits : IsWaiting e

-- What a turn says of where an evaluation stood, of the evaluation and of the units left. What is left of them behind a fault is
-- not said.
abbrev pub Turned : Turn → (List Answer → Evaluated) → Eval → ℕ → Type 0
Turned (Needs need) stood e units = Asks (need_of need) stood e units
Turned (Value v) stood e units = (answers : List Answer) → stood answers ≡ gives (gave (Held v) e.locals.items) answers units
Turned (Fault kind place) stood e units = (answers : List Answer) → stood answers ≡ faults (fault_at kind place) answers

-- the turn that ends an evaluation whose code comes to this
abbrev pub Ends : Turn → Code → Locals → Type 0
Ends (Needs need) code locals = ⊥
Ends (Value v) code locals = code ≡ value v locals
Ends (Fault kind place) code locals = code ≡ fault kind place

-- where an evaluation stands that can't go on by itself
abbrev pub rests : Eval → Reached → List Answer → ℕ → Evaluated
rests e (ReachedNeed need nest place after) answers units =
    stands (table_spec e.table.now) e.place e.frames.items
    (placed (nest_of nest) (asked (of_evaluator (table_spec e.table.now)) (need_of need) place e.locals.items (after_need after place))) answers units
rests e (Fails kind place) answers units = faults (fault_at kind place) answers
rests e (Gives flow) answers units = comes_to (table_spec e.table.now) (alone e.place (flow_of flow e.locals.items)) answers units

-- ---- an expression that needs nothing

-- its result by its first turn: nobody gives what it needs
abbrev pub pure_turn : Turn → Result ValueTree (Halt RunFault)
pure_turn (Needs need) = Err (Of Undefined)
pure_turn (Value v) = Ok v
pure_turn (Fault kind place) = Err (Of kind)
