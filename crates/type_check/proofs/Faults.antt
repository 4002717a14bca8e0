-- The fault that a call stops with.
use Rattle.std.specs.Prelude.{Option, Some, None, Result, Ok, Err}
use Rattle.vdm_kinds.specs.declared.halt.Halt.{Halt}
use Rattle.vdm_kinds.specs.declared.halt.Halt.TheVariants.{Of, OutOfMemory}

abbrev pub fault_in : {A F : Type 0} → Result A (Halt F) → Option F
fault_in (Ok a) = None
fault_in (Err (Of fault)) = Some fault
fault_in (Err OutOfMemory) = None
