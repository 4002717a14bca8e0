-- How a call ends whose report could not be made or written.
use Rattle.vdm_kinds.specs.declared.halt.Halt.{Halt}
use Rattle.vdm_kinds.specs.declared.halt.Halt.TheVariants.{Of, OutOfMemory}
use Rattle.vdm_outside.specs.declared.failed.Failed.{Failed}
use Rattle.vdm_report.specs.declared.end.End.{End}
use Rattle.vdm_report.specs.declared.end.End.TheVariants as end

abbrev pub end_of_halt : Halt Failed → End
end_of_halt (Of fault) = end.WriteFault
end_of_halt OutOfMemory = end.OutOfMemory
