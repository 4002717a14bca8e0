-- Which entry may stand next, by where its thread stands.
use Rattle.std.specs.Prelude.{◌≡◌, List, Some}
use Rattle.abstract_syntax.specs.Classes.{SpecTree}
use Rattle.run_journal.specs.declared.entry.Entry.{Entry}
use Rattle.run_journal.specs.declared.thread.Thread.{Thread}
use Rattle.run_journal.specs.Made.{answer_of, made}
use Rattle.run_journal.specs.Parts.{object_part}
use Rattle.vdm_legal.specs.AtObject.{IsLegalAtObject}
use Rattle.vdm_meaning.specs.Main.{Standing, asks, over}

-- the entry is that of the thread for what it asks and the entry's own answer
abbrev pub IsAskedFor : Thread → Standing → Entry → Type 0
IsAskedFor thread (asks question) entry = made thread question (answer_of entry) ≡ Some entry
IsAskedFor thread over entry = ⊥

-- it is legal behind others at its object, and the thread, which stands so behind them, asks for it
abbrev pub IsNext : SpecTree → Thread → List Entry → Standing → Entry → Type 0
IsNext spec thread before standing entry =
    IsLegalAtObject spec entry.object (object_part entry.object before) entry.deed × IsAskedFor thread standing entry
