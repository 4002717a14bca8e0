-- The last line of a report. Each ends in a line feed.
use Rattle.std.specs.Prelude.{ℕ, List, [], ◌∷◌, ◌++◌, codes}
use Rattle.std.specs.Fmt.{decimal}
use Rattle.vdm_kinds.specs.declared.part.Part.{Part}
use Rattle.vdm_kinds.specs.declared.part.Part.TheVariants.{Spec, Expr}
use Rattle.vdm_kinds.specs.declared.place.Place.{Place}
use Rattle.vdm_kinds.specs.declared.run_fault.RunFault.{RunFault}
use Rattle.vdm_kinds.specs.declared.spec_fault.SpecFault.{SpecFault}
use Rattle.vdm_kinds.specs.RunFaults.{run_number, run_name}
use Rattle.vdm_kinds.specs.SpecKinds.{spec_number, spec_name}
use Rattle.vdm_values.specs.declared.slot.Slot.{Slot}
use Rattle.vdm_values.specs.declared.slot.Slot.TheVariants.{Unset, Held}
use Rattle.run_journal.specs.declared.thread.Thread.{Thread}
use Rattle.run_journal.specs.declared.thread.Thread.TheVariants.{Main, Of, Release, Clock}
use Rattle.report_texts.specs.declared.blocked.Blocked.{Blocked}
use Rattle.report_texts.specs.Names.{operation_text}
use Rattle.report_texts.specs.Values.{value_text, spaced_text}

abbrev pub line : List ℕ → List ℕ
line text = text ++ 10 ∷ []

abbrev pub part_text : Part → List ℕ
part_text Spec = codes "spec"
part_text Expr = codes "expr"

-- as `expr 1:41`: the part, the line and the column
abbrev pub place_text : Place → List ℕ
place_text place = part_text place.part ++ codes " " ++ decimal place.line ++ codes ":" ++ decimal place.column

-- as `t3`, and `r3.0` for release 0 of object 3
abbrev pub thread_text : Thread → List ℕ
thread_text Main = codes "main"
thread_text (Of object) = codes "t" ++ decimal object
thread_text (Release object k) = codes "r" ++ decimal object ++ codes "." ++ decimal k
thread_text Clock = codes "clock"

abbrev pub usage_line : List ℕ
usage_line =
    line (codes "usage: vdm check | vdm run EXPR [--lanes N] [--slice N] [--ticks N] [--steps N] [--entries N] [--log] | vdm make N")

abbrev pub read_fault_line : List ℕ
read_fault_line = line (codes "read fault")

-- as `refused: 2 SyntaxFault at expr 1:1`
abbrev pub refused_line : SpecFault → List ℕ
refused_line fault =
    line (codes "refused: " ++ decimal (spec_number fault.kind) ++ codes " " ++ spec_name fault.kind
    ++ codes " at " ++ place_text fault.place)

-- as `fault: 101 Overflow in main at expr 1:41`; a value that left the thread stands behind the name
abbrev pub failed_line : List (List ℕ) → RunFault → Slot → Thread → Place → List ℕ
failed_line names fault exit thread place =
    line (codes "fault: " ++ decimal (run_number fault) ++ codes " " ++ run_name fault ++ spaced_text names exit
    ++ codes " in " ++ thread_text thread ++ codes " at " ++ place_text place)

-- as `result: 2`, and `result: ()` without a value
abbrev pub result_line : List (List ℕ) → Slot → List ℕ
result_line names Unset = line (codes "result: ()")
result_line names (Held v) = line (codes "result: " ++ value_text names v)

-- as `checked: classes 3`
abbrev pub checked_line : ℕ → List ℕ
checked_line classes = line (codes "checked: classes " ++ decimal classes)

-- as `made: classes 3, entries 20, result 5`
abbrev pub made_line : ℕ → ℕ → ℕ → List ℕ
made_line classes entries result =
    line (codes "made: classes " ++ decimal classes ++ codes ", entries " ++ decimal entries ++ codes ", result " ++ decimal result)

-- as ``main 2 Loop`f/0``
abbrev pub blocked_text : List (List ℕ) → Blocked → List ℕ
blocked_text names blocked =
    thread_text blocked.thread ++ codes " " ++ decimal blocked.object ++ codes " " ++ operation_text names blocked.op

-- threads that wait, with `; ` between each two
abbrev pub further_blocked : List (List ℕ) → List Blocked → List ℕ
further_blocked names [] = []
further_blocked names (blocked ∷ rest) = codes "; " ++ blocked_text names blocked ++ further_blocked names rest

abbrev pub blocked_texts : List (List ℕ) → List Blocked → List ℕ
blocked_texts names [] = []
blocked_texts names (blocked ∷ rest) = blocked_text names blocked ++ further_blocked names rest

abbrev pub deadlock_line : List (List ℕ) → List Blocked → List ℕ
deadlock_line names blocked = line (codes "deadlock: " ++ blocked_texts names blocked)

-- as `ticks over: 35`
abbrev pub ticks_over_line : ℕ → List ℕ
ticks_over_line ticks = line (codes "ticks over: " ++ decimal ticks)

abbrev pub tick_fault_line : List ℕ
tick_fault_line = line (codes "tick fault")

-- as `journal full: 20`
abbrev pub journal_full_line : ℕ → List ℕ
journal_full_line entries = line (codes "journal full: " ++ decimal entries)
