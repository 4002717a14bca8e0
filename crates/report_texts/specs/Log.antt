-- The lines of the log: an entry each.
use Rattle.std.specs.Prelude.{ℕ, ◌+◌, Bool, true, false, List, [], ◌∷◌, ◌++◌, codes}
use Rattle.std.specs.Fmt.{decimal}
use Rattle.abstract_syntax.specs.Values.{value_trees}
use Rattle.vdm_kinds.specs.declared.name.Name.{Name}
use Rattle.vdm_kinds.specs.RunFaults.{run_number}
use Rattle.vdm_values.specs.declared.slot.Slot.{Slot}
use Rattle.run_journal.specs.declared.deed.Deed.{Deed}
use Rattle.run_journal.specs.declared.deed.Deed.TheVariants.{Class, New, Req, Act, ActFault, Fin, Read, Write}
use Rattle.run_journal.specs.declared.deed.Deed.TheVariants.{Start, Print, Host, Time, End, Fail, Tick, Release}
use Rattle.run_journal.specs.declared.entry.Entry.{Entry}
use Rattle.run_journal.specs.declared.host_answer.HostAnswer.{HostAnswer}
use Rattle.run_journal.specs.declared.host_answer.HostAnswer.TheVariants.{Given, Refused}
use Rattle.run_journal.specs.declared.write.Write.{Write as Pair}
use Rattle.report_texts.specs.Lines.{line, place_text, thread_text}
use Rattle.report_texts.specs.Names.{name_text, operation_text, variable_text}
use Rattle.report_texts.specs.Values.{value_text, values_text, slot_text, spaced_text, string_text}

-- texts one after another, with `, ` between each two
abbrev pub further : List (List ℕ) → List ℕ
further [] = []
further (text ∷ texts) = codes ", " ++ text ++ further texts

abbrev pub listed : List (List ℕ) → List ℕ
listed [] = []
listed (text ∷ texts) = text ++ further texts

abbrev pub texts_of : {A : Type 0} → (A → List ℕ) → List A → List (List ℕ)
texts_of text [] = []
texts_of text (a ∷ as_) = text a ∷ texts_of text as_

-- as `C [0, ?]`
abbrev pub object_text : List (List ℕ) → Name → List Slot → List ℕ
object_text names class slots = name_text names class ++ codes " [" ++ listed (texts_of (slot_text names) slots) ++ codes "]"

-- as ``C`x = 1``
abbrev pub pair_text : List (List ℕ) → Pair → List ℕ
pair_text names pair = variable_text names pair.var ++ codes " = " ++ value_text names pair.value

-- a write is refused by an instance invariant, whose fault has the number 105
abbrev pub refused_write : Bool → List ℕ
refused_write false = []
refused_write true = codes " refused 105"

-- a start is refused where the object was started before, whose fault has the number 120
abbrev pub refused_start : Bool → List ℕ
refused_start false = []
refused_start true = codes " refused 120"

-- as ` = 'A'`
abbrev pub answer_text : List (List ℕ) → HostAnswer → List ℕ
answer_text names (Given v) = codes " = " ++ value_text names v
answer_text names Refused = codes " refused"

-- what a deed is written as
abbrev pub deed_text : List (List ℕ) → Deed → List ℕ
deed_text names (Class class slots) = codes "class " ++ object_text names class slots
deed_text names (New class slots) = codes "new " ++ object_text names class slots
deed_text names (Req op) = codes "req " ++ operation_text names op
deed_text names (Act op) = codes "act " ++ operation_text names op
deed_text names (ActFault op inner) = codes "act-fault " ++ operation_text names op ++ codes " " ++ decimal inner
deed_text names (Fin op) = codes "fin " ++ operation_text names op
deed_text names (Read var slot) = codes "read " ++ variable_text names var ++ codes " = " ++ slot_text names slot
deed_text names (Write pairs refused) = codes "write " ++ listed (texts_of (pair_text names) pairs) ++ refused_write refused
deed_text names (Start refused) = codes "start" ++ refused_start refused
deed_text names (Print text) = codes "print " ++ string_text (value_trees text)
deed_text names (Host op arguments answer) =
    codes "host " ++ operation_text names op ++ codes " (" ++ values_text names (value_trees arguments) ++ codes ")"
    ++ answer_text names answer
deed_text names (Time ticks) = codes "time " ++ decimal ticks
deed_text names (End slot) = codes "end" ++ spaced_text names slot
deed_text names (Fail fault exit place) =
    codes "fail " ++ decimal (run_number fault) ++ spaced_text names exit ++ codes " " ++ place_text place
deed_text names Tick = codes "tick"
deed_text names (Release k) = codes "release " ++ decimal k

-- as ``9 main 2 write Counter`n = 1``: the number of the entry, its thread, its object and its deed
abbrev pub log_line : List (List ℕ) → ℕ → Entry → List ℕ
log_line names k entry =
    line (decimal k ++ codes " " ++ thread_text entry.thread ++ codes " " ++ decimal entry.object
    ++ codes " " ++ deed_text names entry.deed)

-- the lines of entries, numbered from k on
abbrev pub log_lines : List (List ℕ) → ℕ → List Entry → List ℕ
log_lines names k [] = []
log_lines names k (entry ∷ entries) = log_line names k entry ++ log_lines names (k + 1) entries
