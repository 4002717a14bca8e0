-- Where a node stands: whose names it sees.
use Rattle.std.specs.Prelude.{ℕ, suc, ◌+◌, Bool, true, false, not, ◌||◌, List, map, reverse, Option, Some, None, is_some, option_map}
use Rattle.std.specs.List.{find}
use Rattle.vdm_kinds.specs.NameList.{io}
use Rattle.vdm_kinds.specs.declared.member.VarRef.{VarRef}
use Rattle.vdm_kinds.specs.declared.name.Name.{Name}
use Rattle.vdm_kinds.specs.declared.place.Place.{Place}
use Rattle.vdm_values.specs.declared.slot.Slot.{Slot}
use Rattle.vdm_values.specs.declared.slot.Slot.TheVariants.{Held as Holds}
use Rattle.abstract_syntax.specs.Classes.{is_same_name}
use Rattle.class_meaning.specs.Laws.{is_same_variable}
use Rattle.pattern_meaning.specs.Bindings.{Binding}

-- ---- locals

-- local names with their slots, the newest last
abbrev pub Locals : Type 0
Locals = List (Name × Slot)

-- the slot of the newest local of the name
abbrev pub local_named : Locals → Name → Option Slot
local_named locals name = option_map (λ (l : Name × Slot). l.1) (find (λ (l : Name × Slot). is_same_name name l.0) (reverse locals))

-- The name under which `RESULT` stands among the locals. Names are numbered from the first on, so no name of a text has this number.
abbrev pub result_name : Name
result_name = record { 0 = 4294967295 }

-- The name under which `x~` stands among the locals. The names of a text have smaller numbers than 2147483648.
abbrev pub old_name : Name → Name
old_name name = record { 0 = name.0 + 2147483648 }

-- what a binding binds, as locals
abbrev pub bound_locals : Binding → Locals
bound_locals = map (λ p. (p.0, Holds p.1))

-- ---- what a predicate holds

-- of an operation name: how often it was asked for, began and ended
pub record Counted : Type 0 where
  pub name : Name
  pub requested : ℕ
  pub activated : ℕ
  pub finished : ℕ

-- variables with their slots, and the counters
pub record Held : Type 0 where
  pub variables : List (VarRef × Slot)
  pub counters : List Counted

abbrev pub slot_held : Held → VarRef → Option Slot
slot_held held var = option_map (λ (v : VarRef × Slot). v.1) (find (λ (v : VarRef × Slot). is_same_variable var v.0) held.variables)

-- what is held where a variable is named that is static or not: nothing static is held
abbrev pub held_unless_static : Bool → Option Held → Option Held
held_unless_static true held = None
held_unless_static false held = held

-- ---- tests of types

-- inside of which tests of invariants of types a node stands
pub record Nest : Type 0 where
  -- how many of them are being tested round it
  pub depth : ℕ
  -- where the outermost of these tests is made, if that is known
  pub test : Option Place

-- inside of none
abbrev pub no_nest : Nest
no_nest = record { depth = 0; test = None }

-- where a fault stands that would stand at this place: inside of a test it stands where the outermost test is made
abbrev pub outermost : Option Place → Place → Place
outermost None place = place
outermost (Some test) place = test

-- inside of one test more, which is made at the place
abbrev pub deeper : Nest → Place → Nest
deeper nest place = record { depth = suc nest.depth; test = Some (outermost nest.test place) }

-- ---- environments

-- what stays the same from one node of a body to the next
pub record Here : Type 0 where
  -- the class in which the node stands; the expression of a run stands in none
  pub scope : Option Name
  -- The class of the object, also of a class object and of one that is not made yet. Functions, class values, invariants of types and the
  -- initialisers of static variables have none.
  pub own : Option Name
  -- the object: none in the expression of a run, in initialisers and in static operations
  pub me : Option ℕ
  -- what is held, in a predicate or an instance invariant
  pub held : Option Held
  -- the tests of types round the node
  pub nest : Nest

pub record Env : Type 0 where
  pub here : Here
  pub locals : Locals

abbrev pub at : Here → Locals → Env
at here locals = record { here = here; locals = locals }

-- the expression of a run: of no class and no object
abbrev pub outside : Here
outside = record { scope = None; own = None; me = None; held = None; nest = no_nest }

-- the functions, class values and invariants of types of a class, and the initialisers of its static variables
abbrev pub inside_class : Name → Nest → Here
inside_class class nest = record { scope = Some class; own = None; me = None; held = None; nest = nest }

-- the initialisers of a class for a new object of its own class, which names nothing of the object
abbrev pub initialising : Name → Name → Here
initialising own class = record { scope = Some class; own = Some own; me = None; held = None; nest = no_nest }

-- the static operations of a class, likewise
abbrev pub static_inside : Name → Here
static_inside class = initialising class class

-- the body of an operation of a class, on an object and its class
abbrev pub inside : ℕ → Name → Name → Here
inside me own class = record { scope = Some class; own = Some own; me = Some me; held = None; nest = no_nest }

-- Whether a node may name variables and operations, and make objects. What it may not, no accepted text does there: so nothing is asked
-- before all class objects are made.
abbrev pub may_act : Here → Bool
may_act here = not (is_some here.scope) || is_some here.own

-- the class of the object on which a node stands, where it stands on one
abbrev pub object_class : Option ℕ → Option Name → Option Name
object_class None own = None
object_class (Some me) own = own

-- the class by which the names of types are found: that of `IO` where the node stands in none
abbrev pub type_scope : Option Name → Name
type_scope None = io
type_scope (Some class) = class
