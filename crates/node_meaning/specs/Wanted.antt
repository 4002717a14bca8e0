-- What a call gives to the node that calls.
use Rattle.vdm_kinds.specs.declared.place.Place.{Place}
use Rattle.vdm_kinds.specs.declared.run_fault.RunFault.TheVariants.{NoReturn, Undefined}
use Rattle.vdm_values.specs.declared.slot.Slot.{Slot}
use Rattle.vdm_values.specs.declared.slot.Slot.TheVariants.{Unset, Held}
use Rattle.plans.specs.Plans.{finish}
use Rattle.node_meaning.specs.Envs.{Locals}
use Rattle.node_meaning.specs.Tasks.{Flow, gave, next, returned, exited, Code, fault, value}

-- whether a call's value is wanted
pub data Wanted : Type 0 where
  a_value : Wanted
  no_value : Wanted

-- where a value is wanted and none came, that is a fault at the call
abbrev pub given_slot : Wanted → Place → Slot → Locals → Code
given_slot no_value place slot locals = finish (gave slot locals)
given_slot a_value place (Held v) locals = value v locals
given_slot a_value place Unset locals = fault NoReturn place

-- an exit that left the operation goes on behind the call
abbrev pub given : Wanted → Place → Flow → Code
given wanted place (gave slot locals) = given_slot wanted place slot locals
given wanted place (next locals) = fault Undefined place
given wanted place (returned slot locals) = fault Undefined place
given wanted place (exited v from locals) = finish (exited v from locals)
