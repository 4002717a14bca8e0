-- The faults of a thread.
use Rattle.vdm_kinds.specs.declared.run_fault.RunFault.{RunFault}
use Rattle.vdm_kinds.specs.declared.place.Place.{Place}
use Rattle.vdm_values.specs.declared.slot.Slot.{Slot}
use Rattle.vdm_values.specs.declared.slot.Slot.TheVariants.{Unset}

-- what a thread asks to fail with: the fault, the value of an exit that left it, and the place
pub record Fault : Type 0 where
  pub fault : RunFault
  pub exit : Slot
  pub place : Place

-- a fault that is no exit
abbrev pub fault_at : RunFault → Place → Fault
fault_at fault place = record { fault = fault; exit = Unset; place = place }
