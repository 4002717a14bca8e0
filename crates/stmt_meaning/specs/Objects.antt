-- New objects.
use Rattle.std.specs.Prelude.{ℕ, Bool, true, false, List, [], ◌∷◌, ◌++◌, length, Option, Some, None}
use Rattle.vdm_kinds.specs.declared.member.OpRef.{OpRef}
use Rattle.vdm_kinds.specs.declared.member.VarRef.{VarRef}
use Rattle.vdm_kinds.specs.declared.name.Name.{Name}
use Rattle.vdm_kinds.specs.declared.place.Place.{Place}
use Rattle.vdm_kinds.specs.declared.run_fault.RunFault.TheVariants.{InstanceInvariant, Undefined}
use Rattle.vdm_values.specs.declared.slot.Slot.{Slot}
use Rattle.vdm_values.specs.declared.slot.Slot.TheVariants.{Unset, Held}
use Rattle.abstract_syntax.specs.Values.{ValueTree, object}
use Rattle.abstract_syntax.specs.Expressions.{ExprTree}
use Rattle.abstract_syntax.specs.Classes.{VariableTree, OperationTree, SpecTree}
use Rattle.run_journal.specs.declared.answer.Answer.{Answer}
use Rattle.run_journal.specs.declared.answer.Answer.TheVariants.{Object}
use Rattle.run_journal.specs.declared.question.Question.TheVariants.{New}
use Rattle.plans.specs.Plans.{finish, ask, part}
use Rattle.node_meaning.specs.Envs.{Locals, at, initialising}
use Rattle.node_meaning.specs.Fitting.{slots_typed}
use Rattle.node_meaning.specs.Names.{operation_definition, variable_definition}
use Rattle.node_meaning.specs.Tasks.{expr_in, Flow, gave, next, returned, exited, noted, Code, fault, value}
use Rattle.stmt_meaning.specs.Calling.{gives_object}
use Rattle.stmt_meaning.specs.Calls.{called}
use Rattle.stmt_meaning.specs.Keeping.{keeps, holding_of}

-- an object that is being made
pub record Making : Type 0 where
  -- its class
  pub class : Name
  -- the arguments for its constructor, with their places
  pub arguments : List ValueTree
  pub places : List Place
  -- the place of the node that makes it
  pub place : Place

-- ---- its constructor

-- the operation that a class itself has under its own name, with so many parameters
abbrev pub constructor_named : Making → OpRef
constructor_named m = record { class = m.class; name = m.class; arity = length m.arguments }

-- without one nothing is called; and the call of one gives the object
abbrev pub constructed : SpecTree → Making → ℕ → Option OperationTree → Locals → Code
constructed spec m number None locals = value (object number m.class) locals
constructed spec m number (Some operation) locals =
    called spec number m.class (constructor_named m) operation m.arguments m.places m.place (gives_object (object number m.class)) locals

-- the object that was made
abbrev pub created : SpecTree → Making → Locals → Answer → Code
created spec m locals (Object number) = constructed spec m number (operation_definition spec (constructor_named m)) locals
created spec m locals _ = fault Undefined m.place

-- ---- its variables

abbrev pub object_asked : SpecTree → Making → List Slot → Locals → Code
object_asked spec m slots locals = ask (noted (New m.class slots)) (created spec m locals)

-- ... where its invariants hold
abbrev pub object_if : SpecTree → Making → List Slot → Bool → Locals → Code
object_if spec m slots true locals = object_asked spec m slots locals
object_if spec m slots false locals = fault InstanceInvariant m.place

-- once all initialisers are evaluated their types are tested, then the invariants of the object, and then the object is asked for
abbrev pub make_object : SpecTree → Making → Locals → List VarRef → List Slot → Code
make_object spec m locals vars slots =
    slots_typed spec m.place vars slots (object_if spec m slots (keeps spec m.class (holding_of vars slots))) locals

-- the slot of one variable behind others: what its initialiser gives. The locals are again those of the node that makes the object.
abbrev pub initial_value : Place → Locals → (List Slot → Code) → List Slot → Flow → Code
initial_value place locals rest slots (gave (Held v) inner) = rest (slots ++ Held v ∷ [])
initial_value place locals rest slots (gave Unset inner) = fault Undefined place
initial_value place locals rest slots (next inner) = fault Undefined place
initial_value place locals rest slots (returned slot inner) = fault Undefined place
initial_value place locals rest slots (exited v from inner) = finish (exited v from locals)

abbrev pub initial_of : Option VariableTree → Option ExprTree
initial_of None = None
initial_of (Some variable) = variable.initial

-- the initialiser names nothing of an object, and stands in the variable's class; without one the variable is unset
abbrev pub initial_then : Making → Name → Option ExprTree → Locals → (List Slot → Code) → List Slot → Code
initial_then m class None locals rest slots = rest (slots ++ Unset ∷ [])
initial_then m class (Some initial) locals rest slots =
    part (expr_in (at (initialising m.class class) []) initial) (initial_value m.place locals rest slots)

-- the initialisers of the variables that are left, in the order of the layout, behind the slots that were made
abbrev pub initialise : SpecTree → Making → Locals → List VarRef → List VarRef → List Slot → Code
initialise spec m locals vars [] slots = make_object spec m locals vars slots
initialise spec m locals vars (var ∷ left) slots =
    initial_then m var.class (initial_of (variable_definition spec var)) locals (initialise spec m locals vars left) slots

-- a new object of a class of the specification
abbrev pub new_object : SpecTree → Making → Option (List VarRef) → Locals → Code
new_object spec m None locals = fault Undefined m.place
new_object spec m (Some vars) locals = initialise spec m locals vars vars []
