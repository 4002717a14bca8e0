-- Calls that are under way and objects that are being made, in the words of the meaning.
use Rattle.std.specs.Prelude.{ℕ, ◌+◌, List, [], ◌∷◌, ◌++◌, map, drop, Option, Some, None}
use Rattle.abstract_syntax.specs.Classes.{OperationTree, SpecTree}
use Rattle.abstract_syntax.specs.Expressions.{ExprTree}
use Rattle.abstract_syntax.specs.Values.{ValueTree}
use Rattle.expr_tree.specs.View.{view_of}
use Rattle.run_journal.specs.declared.question.Question.TheVariants as question
use Rattle.vdm_tree.specs.ClassView.{operation_view}
use Rattle.vdm_values.specs.declared.slot.Slot.{Slot}
use Rattle.vdm_values.specs.declared.slot.Slot.TheVariants.{Held}
use Rattle.plans.specs.Plans.{ask, part}
use Rattle.node_meaning.specs.Envs.{Locals}
use Rattle.node_meaning.specs.Fitting.{slots_typed}
use Rattle.node_meaning.specs.Matching.{exprs_of}
use Rattle.node_meaning.specs.Strict.{with_others}
use Rattle.node_meaning.specs.Tasks.{Flow as MeantFlow, Code, noted, with_value}
use Rattle.stmt_meaning.specs.Calling.{Giving, gives_slot, gives_object, Calling as MeantCalling, calling_here}
use Rattle.stmt_meaning.specs.Calls.{bound, olds_read, requested, values_typed}
use Rattle.stmt_meaning.specs.Keeping.{keeps, holding_of}
use Rattle.stmt_meaning.specs.Objects.{Making as MeantMaking, initial_value, initialise, object_if}
use Rattle.stmt_meaning.specs.Olds.{Old as MeantOld}
use Rattle.vdm_meaning.specs.Main.{whole_expression, ended as main_ended, make_class_objects, object_of_class, static_slots, statics_typed}
use Rattle.eval_data.specs.Parts.{boxed_list}
use Rattle.step_data.specs.declared.calling.Binding.{Binding}
use Rattle.step_data.specs.declared.calling.Calling.{Calling}
use Rattle.step_data.specs.declared.calling.Old.{Old}
use Rattle.step_data.specs.declared.calling.Requesting.{Requesting}
use Rattle.step_data.specs.declared.class_making.ClassMaking.{ClassMaking}
use Rattle.step_data.specs.declared.making.Creating.{Creating}
use Rattle.step_data.specs.declared.making.Making.{Making}

-- ---- calls

abbrev pub old_view : Old → MeantOld
old_view old = record { name = old.name; object = old.object; var = old.var }

abbrev pub giving_of : Option ValueTree → Giving
giving_of None = gives_slot
giving_of (Some v) = gives_object v

abbrev pub call_operation : Calling → OperationTree
call_operation c = operation_view c.operation.now

abbrev pub calling_of : Calling → MeantCalling
calling_of c = record {
  me = c.me;
  own = c.own;
  op = c.op;
  operation = call_operation c;
  arguments = c.arguments;
  place = c.place;
  gives = giving_of c.gives;
}

-- what is read before the body
abbrev pub olds_of : Calling → List MeantOld
olds_of c = map old_view c.olds.items

-- the arguments behind the first so many are tested, and then the call is asked for
abbrev pub arguments_left : SpecTree → Requesting → ℕ → Locals → Code
arguments_left spec r tested =
    values_typed spec (Some r.call.value.op.class) (drop tested (call_operation r.call.value).parameters) (drop tested r.places.items)
    (drop tested r.call.value.arguments) (requested spec (calling_of r.call.value))

-- what stands with `~` is read from this number on, and then the parameters follow
abbrev pub read_from : SpecTree → Calling → ℕ → Locals → Code
read_from spec c next = olds_read spec (calling_of c) (map old_view (drop next c.olds.items))

-- the value of an expression in brackets came
abbrev pub binding_then : SpecTree → Binding → MeantFlow → Code
binding_then spec b =
    with_value b.call.value.place
    (with_others (calling_here (calling_of b.call.value)) b.call.value.place (exprs_of (drop b.next (boxed_list b.found.items))) b.given.items
    (bound spec (calling_of b.call.value)))

-- ---- new objects

abbrev pub making_of : Creating → MeantMaking
making_of o = record { class = o.class; arguments = o.arguments; places = o.places.items; place = o.place }

-- the initialisers that are left, behind the slots
abbrev pub initialisers : SpecTree → Making → Code
initialisers spec m = initialise spec (making_of m.object.value) m.saved.items m.variables.now m.left.now m.slots.items

-- one of them gives a slot, and then those behind it
abbrev pub initial_of : SpecTree → Making → MeantFlow → Code
initial_of spec m =
    initial_value m.object.value.place m.saved.items
    (initialise spec (making_of m.object.value) m.saved.items m.variables.now m.left.now) m.slots.items

-- the object is asked for, where its invariants hold
abbrev pub object_left : SpecTree → Making → Locals → Code
object_left spec m =
    object_if spec (making_of m.object.value) m.slots.items (keeps spec m.object.value.class (holding_of m.variables.now m.slots.items))

-- the slots behind the first so many are tested, and then the object is asked for
abbrev pub slots_left : SpecTree → Making → ℕ → Locals → Code
slots_left spec m tested =
    slots_typed spec m.object.value.place (drop tested m.variables.now) (drop tested m.slots.items) (object_left spec m)

-- ---- class objects

-- the expression, and behind it main's end
abbrev pub main_expression : ExprTree → Code
main_expression tree = part (whole_expression tree) main_ended

-- those behind it, and the expression
abbrev pub class_behind : SpecTree → ClassMaking → Code
class_behind spec m = make_class_objects spec (m.object + 1) m.others.now (main_expression (view_of m.tree.now))

-- the static variables that are left, behind these slots
abbrev pub statics_behind : SpecTree → ClassMaking → List Slot → Code
statics_behind spec m = static_slots spec m.left.now (object_of_class spec m.object m.class m.variables.now (class_behind spec m))

abbrev pub statics_left : SpecTree → ClassMaking → Code
statics_left spec m = statics_behind spec m m.slots.items

-- an initialiser gave a value
abbrev pub static_given : SpecTree → ClassMaking → ValueTree → Code
static_given spec m v = statics_behind spec m (m.slots.items ++ Held v ∷ [])

-- the slots behind the first so many are tested, and then the class object is asked for
abbrev pub statics_tested : SpecTree → ClassMaking → ℕ → Code
statics_tested spec m tested =
    statics_typed spec (drop tested m.variables.now) (drop tested m.slots.items)
    (ask (noted (question.Class m.object m.class m.slots.items)) (λ answer. class_behind spec m))
