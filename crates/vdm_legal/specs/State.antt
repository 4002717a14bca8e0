-- What the entries on an object say of it: what its variables hold, and how often its operations were asked for, began and
-- ended. Each is found in the list of the entries itself.
use Rattle.std.specs.Prelude.{ℕ, Bool, true, false, ◌&&◌, if◌then◌else◌, List, [], ◌∷◌, length, filter, map, Option, Some, None}
use Rattle.vdm_kinds.specs.declared.member.VarRef.{VarRef}
use Rattle.vdm_kinds.specs.declared.name.Name.{Name}
use Rattle.vdm_values.specs.declared.slot.Slot.{Slot}
use Rattle.vdm_values.specs.declared.slot.Slot.TheVariants.{Unset, Held}
use Rattle.abstract_syntax.specs.Values.{ValueTree}
use Rattle.abstract_syntax.specs.Classes.{SpecTree, is_same_name}
use Rattle.class_meaning.specs.Classes.{class_number}
use Rattle.class_meaning.specs.Objects.{layout, statics}
use Rattle.run_journal.specs.declared.deed.Deed.{Deed}
use Rattle.run_journal.specs.declared.deed.Deed.TheVariants.{Class, New, Req, Act, Fin, Write, Tick}
use Rattle.run_journal.specs.declared.entry.Entry.{Entry}
use Rattle.run_journal.specs.declared.write.Write.{Write as Pair}
use Rattle.stmt_meaning.specs.Keeping.{Holding, keeps}

-- ---- variables

abbrev pub is_same_variable : VarRef → VarRef → Bool
is_same_variable a b = is_same_name a.class b.class && is_same_name a.name b.name

-- the second of two that is there, else the first
abbrev pub last_of : {A : Type 0} → Option A → Option A → Option A
last_of a None = a
last_of a (Some b) = Some b

-- the value in the last pair of the variable
abbrev pub written_in : VarRef → List Pair → Option ValueTree
written_in var [] = None
written_in var (pair ∷ pairs) = last_of (if is_same_variable var pair.var then Some pair.value else None) (written_in var pairs)

-- a write that was refused writes nothing
abbrev pub written_by : VarRef → Deed → Option ValueTree
written_by var (Write pairs false) = written_in var pairs
written_by var _ = None

-- the value that the last of the writes gave the variable
abbrev pub last_written : VarRef → List Entry → Option ValueTree
last_written var [] = None
last_written var (entry ∷ entries) = last_of (written_by var entry.deed) (last_written var entries)

-- the variables of the class of a number, where there is one
abbrev pub variables_by : (ℕ → List VarRef) → Option ℕ → List VarRef
variables_by variables None = []
variables_by variables (Some k) = variables k

-- the slot of a variable among the slots in the order of a layout; one that is not there is unset
abbrev pub slot_among : VarRef → List VarRef → List Slot → Slot
slot_among var (other ∷ others) (slot ∷ slots) = if is_same_variable var other then slot else slot_among var others slots
slot_among var _ _ = Unset

-- the variables of an object of a class, and those of a class object, in order; none of a class that is not there
abbrev pub object_variables : SpecTree → Name → List VarRef
object_variables spec class = variables_by (layout spec) (class_number spec class)

abbrev pub class_variables : SpecTree → Name → List VarRef
class_variables spec class = variables_by (statics spec) (class_number spec class)

-- what the variable held when the object was made
abbrev pub slot_made : SpecTree → VarRef → Deed → Slot
slot_made spec var (New class slots) = slot_among var (object_variables spec class) slots
slot_made spec var (Class class slots) = slot_among var (class_variables spec class) slots
slot_made spec var _ = Unset

-- the class of which an object was made
abbrev pub class_made : Deed → Option Name
class_made (New class slots) = Some class
class_made _ = None

abbrev pub first_slot : SpecTree → VarRef → List Entry → Slot
first_slot spec var [] = Unset
first_slot spec var (entry ∷ entries) = slot_made spec var entry.deed

-- a value that was written last, or else the slot that was there first
abbrev pub slot_or : Slot → Option ValueTree → Slot
slot_or first None = first
slot_or first (Some v) = Held v

-- what a variable of the object of these entries holds; a variable that it does not have is unset
abbrev pub state_of : SpecTree → List Entry → VarRef → Slot
state_of spec entries var = slot_or (first_slot spec var entries) (last_written var entries)

-- ---- invariants

-- the class of an object that was made; a class object has none that counts
abbrev pub instance_class : List Entry → Option Name
instance_class [] = None
instance_class (entry ∷ entries) = class_made entry.deed

-- what a variable holds once these are written
abbrev pub state_with : SpecTree → List Entry → List Pair → VarRef → Slot
state_with spec entries writes var = slot_or (state_of spec entries var) (written_in var writes)

-- what the variables of an object of the class hold then
abbrev pub holding_with : SpecTree → List Entry → List Pair → Name → Holding
holding_with spec entries writes class = map (λ (var : VarRef). (var, state_with spec entries writes var)) (object_variables spec class)

-- of a class object nothing is to be kept
abbrev pub kept_in : SpecTree → List Entry → List Pair → Option Name → Bool
kept_in spec entries writes None = true
kept_in spec entries writes (Some class) = keeps spec class (holding_with spec entries writes class)

-- whether the invariants of the object of these entries hold once these are written
abbrev pub keeps_with : SpecTree → List Entry → List Pair → Bool
keeps_with spec entries writes = kept_in spec entries writes (instance_class entries)

-- ---- counters

-- whether a deed asks for an operation of the name, begins its body, or ends it
abbrev pub is_request : Name → Deed → Bool
is_request name (Req op) = is_same_name name op.name
is_request name _ = false

abbrev pub is_activation : Name → Deed → Bool
is_activation name (Act op) = is_same_name name op.name
is_activation name _ = false

abbrev pub is_finish : Name → Deed → Bool
is_finish name (Fin op) = is_same_name name op.name
is_finish name _ = false

-- how many of the entries have such a deed
abbrev pub count_of : (Deed → Bool) → List Entry → ℕ
count_of test entries = length (filter (λ (e : Entry). test e.deed) entries)

abbrev pub requests : Name → List Entry → ℕ
requests name = count_of (is_request name)

abbrev pub activations : Name → List Entry → ℕ
activations name = count_of (is_activation name)

abbrev pub finishes : Name → List Entry → ℕ
finishes name = count_of (is_finish name)

-- ---- the time

abbrev pub is_tick : Deed → Bool
is_tick Tick = true
is_tick _ = false

-- how often the clock was moved on
abbrev pub ticks : List Entry → ℕ
ticks = count_of is_tick
