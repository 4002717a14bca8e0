-- The faults of a run: one table of their numbers and names.
use Rattle.std.specs.Prelude.{ℕ, List, codes}
use Rattle.vdm_kinds.specs.declared.run_fault.RunFault.{RunFault}
use Rattle.vdm_kinds.specs.declared.run_fault.RunFault.TheVariants.{Overflow, DivideByZero, TypeFault, TypeInvariant, InstanceInvariant}
use Rattle.vdm_kinds.specs.declared.run_fault.RunFault.TheVariants.{Pre, Post, NoMatch, NotInDomain, EmptyOperand, MapConflict, Undefined}
use Rattle.vdm_kinds.specs.declared.run_fault.RunFault.TheVariants.{UncaughtExit, NotUnique, NotSet, SizeLimit, StepLimit, GuardFault}
use Rattle.vdm_kinds.specs.declared.run_fault.RunFault.TheVariants.{NoThread, StartedTwice, HostRefused, NoReturn, ExponentRange}
use Rattle.vdm_kinds.specs.FaultRow.{FaultRow, row}

-- the table: the number and the name of each
abbrev pub run_row : RunFault → FaultRow
run_row Overflow = row 101 (codes "Overflow")
run_row DivideByZero = row 102 (codes "DivideByZero")
run_row TypeFault = row 103 (codes "TypeFault")
run_row TypeInvariant = row 104 (codes "TypeInvariant")
run_row InstanceInvariant = row 105 (codes "InstanceInvariant")
run_row Pre = row 106 (codes "Pre")
run_row Post = row 107 (codes "Post")
run_row NoMatch = row 108 (codes "NoMatch")
run_row NotInDomain = row 109 (codes "NotInDomain")
run_row EmptyOperand = row 110 (codes "EmptyOperand")
run_row MapConflict = row 111 (codes "MapConflict")
run_row Undefined = row 112 (codes "Undefined")
run_row UncaughtExit = row 113 (codes "UncaughtExit")
run_row NotUnique = row 114 (codes "NotUnique")
run_row NotSet = row 115 (codes "NotSet")
run_row SizeLimit = row 116 (codes "SizeLimit")
run_row StepLimit = row 117 (codes "StepLimit")
run_row GuardFault = row 118 (codes "GuardFault")
run_row NoThread = row 119 (codes "NoThread")
run_row StartedTwice = row 120 (codes "StartedTwice")
run_row HostRefused = row 121 (codes "HostRefused")
run_row NoReturn = row 122 (codes "NoReturn")
run_row ExponentRange = row 123 (codes "ExponentRange")

abbrev pub run_number : RunFault → ℕ
run_number fault = (run_row fault).number

abbrev pub run_name : RunFault → List ℕ
run_name fault = (run_row fault).name
