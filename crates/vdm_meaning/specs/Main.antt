-- The code of main, and where a thread stands in its code after its answers.
use Rattle.std.specs.Prelude.{ℕ, ◌+◌, List, [], ◌∷◌, ◌++◌, Option, Some, None}
use Rattle.vdm_kinds.specs.declared.member.VarRef.{VarRef}
use Rattle.vdm_kinds.specs.declared.name.Name.{Name}
use Rattle.vdm_kinds.specs.declared.place.Place.{Place}
use Rattle.vdm_kinds.specs.declared.run_fault.RunFault.TheVariants.{UncaughtExit, Undefined}
use Rattle.vdm_values.specs.declared.slot.Slot.{Slot}
use Rattle.vdm_values.specs.declared.slot.Slot.TheVariants.{Unset, Held}
use Rattle.abstract_syntax.specs.Classes.{VariableTree, SpecTree}
use Rattle.abstract_syntax.specs.Expressions.{ExprTree, apply, expr_place}
use Rattle.abstract_syntax.specs.Types.{TypeTree}
use Rattle.abstract_syntax.specs.Values.{ValueTree}
use Rattle.run_journal.specs.declared.answer.Answer.{Answer}
use Rattle.run_journal.specs.declared.question.Question.{Question}
use Rattle.run_journal.specs.declared.question.Question.TheVariants.{Class, Print, End, Fail}
use Rattle.plans.specs.Plans.{Outcome, gives, faults, needs, finish, fail, ask, part, run, meaning, bind}
use Rattle.report_texts.specs.Printing.{printed_text}
use Rattle.vdm_legal.specs.ClassObjects.{classes_of}
use Rattle.vdm_legal.specs.State.{class_variables}
use Rattle.node_meaning.specs.Envs.{Locals, no_nest, at, outside, inside_class}
use Rattle.node_meaning.specs.Faults.{Fault}
use Rattle.node_meaning.specs.Fitting.{fitted}
use Rattle.node_meaning.specs.Names.{variable_definition}
use Rattle.node_meaning.specs.Tasks.{Task, expr_in, call_in, Flow, gave, next, returned, exited, Query, noted, printing, needed, Code, fault, spent}
use Rattle.stmt_meaning.specs.Objects.{initial_of}
use Rattle.stmt_meaning.specs.Questions.{of_thread}
use Rattle.stmt_meaning.specs.TaskPlans.{plan_of}

-- main ends with a slot
abbrev pub end_with : Slot → Locals → Code
end_with slot locals = ask (noted (End slot)) (λ _. finish (gave slot locals))

-- an exit that leaves main is a fault with its value, at its place
abbrev pub uncaught : ValueTree → Place → Fault
uncaught v place = record { fault = UncaughtExit; exit = Held v; place = place }

-- what is done with what came of the expression: with its value, or without one, main ends
abbrev pub ended : Flow → Code
ended (gave slot locals) = end_with slot locals
ended (next locals) = end_with Unset locals
ended (returned slot locals) = end_with slot locals
ended (exited v place locals) = fail (uncaught v place)

-- of a call that is the whole expression no value is wanted
abbrev pub whole_expression : ExprTree → Task
whole_expression (apply head arguments place) = call_in (at outside []) (apply head arguments place)
whole_expression tree = expr_in (at outside []) tree

-- ---- class objects

-- what is done with a value for a class object; an exit leaves main
abbrev pub came : Place → (ValueTree → Code) → Flow → Code
came place further (gave (Held v) locals) = further v
came place further (gave Unset locals) = fault Undefined place
came place further (next locals) = fault Undefined place
came place further (returned slot locals) = fault Undefined place
came place further (exited v from locals) = fail (uncaught v from)

-- the slot of one static variable behind others: what its initialiser gives, in the variable's class; without one it is unset
abbrev pub static_slot : Name → Option ExprTree → (List Slot → Code) → List Slot → Code
static_slot class None further slots = further (slots ++ Unset ∷ [])
static_slot class (Some initial) further slots =
    part (expr_in (at (inside_class class no_nest) []) initial) (came (expr_place initial) (λ v. further (slots ++ Held v ∷ [])))

-- those of variables in order
abbrev pub static_slots : SpecTree → List VarRef → (List Slot → Code) → List Slot → Code
static_slots spec [] further slots = further slots
static_slots spec (var ∷ vars) further slots =
    static_slot var.class (initial_of (variable_definition spec var)) (static_slots spec vars further) slots

-- a value that an initialiser gave is tested, and a fault of the test stands at the initialiser
abbrev pub static_tested : SpecTree → Name → TypeTree → Option ExprTree → Slot → Code → Code
static_tested spec class declared (Some initial) (Held v) further =
    bind (fitted spec no_nest (Some class) declared (expr_place initial) v []) (came (expr_place initial) (λ fitting_v. further))
static_tested spec class declared _ _ further = further

abbrev pub static_typed : SpecTree → Name → Option VariableTree → Slot → Code → Code
static_typed spec class None slot further = further
static_typed spec class (Some variable) slot further = static_tested spec class variable.declared variable.initial slot further

abbrev pub statics_typed : SpecTree → List VarRef → List Slot → Code → Code
statics_typed spec (var ∷ vars) (slot ∷ slots) further =
    static_typed spec var.class (variable_definition spec var) slot (statics_typed spec vars slots further)
statics_typed spec _ _ further = further

-- once all initialisers are evaluated their types are tested, and then the class object is made
abbrev pub object_of_class : SpecTree → ℕ → Name → List VarRef → Code → List Slot → Code
object_of_class spec object class vars further slots = statics_typed spec vars slots (ask (noted (Class object class slots)) (λ _. further))

-- class objects are made from this number on, each with its static variables, and then `after` is done
abbrev pub make_class_objects : SpecTree → ℕ → List Name → Code → Code
make_class_objects spec object [] after = after
make_class_objects spec object (class ∷ classes) after =
    static_slots spec (class_variables spec class)
    (object_of_class spec object class (class_variables spec class) (make_class_objects spec (object + 1) classes after)) []

-- main makes the class objects, evaluates the expression, and ends
abbrev pub main_plan : SpecTree → ExprTree → Code
main_plan spec tree = make_class_objects spec 0 (classes_of spec) (part (whole_expression tree) ended)

-- ---- where a thread stands

-- where a thread stands: it needs the answer to a question, or it is over
pub data Standing : Type 0 where
  asks : Question → Standing
  over : Standing

-- A fault asks to fail, and behind the answer to that, or to the end, the thread is over. Values are printed by their texts, over the
-- names of the texts that run. No thread has a need as such.
abbrev pub standing_of : List (List ℕ) → Outcome Flow Query Answer Fault → Standing
standing_of names (gives flow answers units) = over
standing_of names (needs (noted question)) = asks question
standing_of names (needs (printing vs)) = asks (Print (printed_text names vs))
standing_of names (needs (needed need)) = over
standing_of names (faults f []) = asks (Fail f.fault f.exit f.place)
standing_of names (faults f (answer ∷ answers)) = over

-- where main stands after its answers, with this many units, over the names of the texts
abbrev pub main_code : List (List ℕ) → SpecTree → ExprTree → ℕ → List Answer → Standing
main_code names spec tree units answers = standing_of names (run (meaning (plan_of (of_thread spec)) spent) (main_plan spec tree) answers units)
