-- What a report writes.
use Rattle.std.specs.Prelude.{ℕ, ◌-◌, ◌==◌, if◌then◌else◌, Bool, true, false, List, [], ◌∷◌, ◌++◌, get_or, length}
use Rattle.std.specs.Char.{encode_utf8}
use Rattle.abstract_syntax.specs.Values.{ValueTree, character}
use Rattle.run_journal.specs.declared.deed.Deed.{Deed}
use Rattle.run_journal.specs.declared.deed.Deed.TheVariants.{Print}
use Rattle.run_journal.specs.declared.entry.Entry.{Entry}
use Rattle.report_texts.specs.Log.{log_lines}

-- a character as it stands; another value prints nothing
abbrev pub plain_text : ValueTree → List ℕ
plain_text (character c) = encode_utf8 c
plain_text _ = []

abbrev pub plain_texts : List ValueTree → List ℕ
plain_texts [] = []
plain_texts (v ∷ vs) = plain_text v ++ plain_texts vs

-- what a deed prints
abbrev pub printed : Deed → List ℕ
printed (Print text) = plain_texts text
printed _ = []

-- what entries print, in order
abbrev pub prints : List Entry → List ℕ
prints [] = []
prints (entry ∷ entries) = printed entry.deed ++ prints entries

-- a text, with a line feed behind it where it is not empty and does not end in one
abbrev pub whole_lines : List ℕ → List ℕ
whole_lines text = if get_or text (length text - 1) 10 == 10 then text else text ++ 10 ∷ []

-- the log, numbered from 1, where it is asked for
abbrev pub log_text : List (List ℕ) → List Entry → Bool → List ℕ
log_text names journal false = []
log_text names journal true = log_lines names 1 journal

-- what is printed, then the log where it is asked for, then the last line
abbrev pub output : List (List ℕ) → List Entry → Bool → List ℕ → List ℕ
output names journal log last = whole_lines (prints journal) ++ log_text names journal log ++ last
