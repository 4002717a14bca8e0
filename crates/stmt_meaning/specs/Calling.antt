-- A call of an operation that is under way.
use Rattle.std.specs.Prelude.{ℕ, Bool, List, if◌then◌else◌}
use Rattle.vdm_kinds.specs.declared.member.OpRef.{OpRef}
use Rattle.vdm_kinds.specs.declared.name.Name.{Name}
use Rattle.vdm_kinds.specs.declared.place.Place.{Place}
use Rattle.vdm_values.specs.declared.slot.Slot.{Slot}
use Rattle.vdm_values.specs.declared.slot.Slot.TheVariants.{Held}
use Rattle.abstract_syntax.specs.Values.{ValueTree}
use Rattle.abstract_syntax.specs.Classes.{OperationTree, is_same_name}
use Rattle.node_meaning.specs.Envs.{Here, inside, static_inside}

-- what a call gives
pub data Giving : Type 0 where
  -- what its body gives
  gives_slot : Giving
  -- of a constructor, the new object that it makes ready
  gives_object : ValueTree → Giving

pub record Calling : Type 0 where
  -- the object on which it runs, and the class of the object
  pub me : ℕ
  pub own : Name
  -- the operation
  pub op : OpRef
  pub operation : OperationTree
  pub arguments : List ValueTree
  -- where it stands
  pub place : Place
  pub gives : Giving

-- where the body, `pre` and `post` stand: a static operation sees nothing of an object
abbrev pub here_in : Bool → ℕ → Name → Name → Here
here_in is_static me own class = if is_static then static_inside class else inside me own class

abbrev pub calling_here : Calling → Here
calling_here c = here_in c.operation.access.is_static c.me c.own c.op.class

-- an operation with the name of its class makes new objects ready
abbrev pub is_constructor : Calling → Bool
is_constructor c = is_same_name c.op.name c.op.class

abbrev pub slot_given : Giving → Slot → Slot
slot_given gives_slot slot = slot
slot_given (gives_object v) slot = Held v
