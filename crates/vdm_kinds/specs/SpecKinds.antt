-- The faults of a text: one table of their numbers and names.
use Rattle.std.specs.Prelude.{ℕ, List, codes}
use Rattle.vdm_kinds.specs.declared.spec_kind.SpecKind.{SpecKind}
use Rattle.vdm_kinds.specs.declared.spec_kind.SpecKind.TheVariants.{LexFault, SyntaxFault, TooDeep, TooLong, LeftOut, UnknownName}
use Rattle.vdm_kinds.specs.declared.spec_kind.SpecKind.TheVariants.{Duplicate, Cycle, Ambiguous, NotVisible, WrongArity, NoCommonValue}
use Rattle.vdm_kinds.specs.declared.spec_kind.SpecKind.TheVariants.{GuardReach, InitReach, NotSynchronised}
use Rattle.vdm_kinds.specs.FaultRow.{FaultRow, row}

-- the table: the number and the name of each
abbrev pub spec_row : SpecKind → FaultRow
spec_row LexFault = row 1 (codes "LexFault")
spec_row SyntaxFault = row 2 (codes "SyntaxFault")
spec_row TooDeep = row 3 (codes "TooDeep")
spec_row TooLong = row 4 (codes "TooLong")
spec_row LeftOut = row 5 (codes "LeftOut")
spec_row UnknownName = row 6 (codes "UnknownName")
spec_row Duplicate = row 7 (codes "Duplicate")
spec_row Cycle = row 8 (codes "Cycle")
spec_row Ambiguous = row 9 (codes "Ambiguous")
spec_row NotVisible = row 10 (codes "NotVisible")
spec_row WrongArity = row 11 (codes "WrongArity")
spec_row NoCommonValue = row 12 (codes "NoCommonValue")
spec_row GuardReach = row 13 (codes "GuardReach")
spec_row InitReach = row 14 (codes "InitReach")
spec_row NotSynchronised = row 15 (codes "NotSynchronised")

abbrev pub spec_number : SpecKind → ℕ
spec_number kind = (spec_row kind).number

abbrev pub spec_name : SpecKind → List ℕ
spec_name kind = (spec_row kind).name
