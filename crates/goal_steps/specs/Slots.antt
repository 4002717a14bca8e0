-- What a slot holds, with a part changed.
use Rattle.std.specs.Prelude.{List, Option, Some, None, Err}
use Rattle.vdm_kinds.specs.declared.run_fault.RunFault.TheVariants.{Undefined}
use Rattle.vdm_values.specs.declared.slot.Slot.{Slot}
use Rattle.vdm_values.specs.declared.slot.Slot.TheVariants.{Held, Unset}
use Rattle.abstract_syntax.specs.Classes.{SpecTree}
use Rattle.abstract_syntax.specs.Statements.{TargetStepTree}
use Rattle.abstract_syntax.specs.Values.{ValueTree}
use Rattle.value_operators.specs.Outcomes.{Outcome}
use Rattle.stmt_meaning.specs.Targets.{changed_by}

abbrev pub slot_changed : SpecTree → List TargetStepTree → List ValueTree → Option Slot → Outcome
slot_changed spec steps vs (Some (Held old)) = changed_by spec steps vs old
slot_changed spec steps vs (Some Unset) = Err Undefined
slot_changed spec steps vs None = Err Undefined
