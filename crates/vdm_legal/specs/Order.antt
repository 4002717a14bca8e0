-- The order of a run on one lane: which number a new object gets. So far one thread alone is born, so nothing else is left open.
use Rattle.std.specs.Prelude.{◌≡◌, ℕ, ◌+◌, max, List, [], ◌∷◌, ◌++◌, length}
use Rattle.abstract_syntax.specs.Classes.{SpecTree}
use Rattle.run_journal.specs.declared.deed.Deed.{Deed}
use Rattle.run_journal.specs.declared.deed.Deed.TheVariants.{New}
use Rattle.run_journal.specs.declared.entry.Entry.{Entry}
use Rattle.vdm_legal.specs.ClassObjects.{classes_of}

-- one more than the greatest number of an object on which an entry stands
abbrev pub above_all : List Entry → ℕ
above_all [] = 0
above_all (entry ∷ entries) = max (entry.object + 1) (above_all entries)

-- a new object has one more than the greatest number so far, where those of all class objects count from the start
abbrev pub next_number : SpecTree → List Entry → ℕ
next_number spec before = max (length (classes_of spec)) (above_all before)

abbrev pub IsNumbered : SpecTree → List Entry → ℕ → Deed → Type 0
IsNumbered spec before object (New class slots) = object ≡ next_number spec before
IsNumbered spec before object _ = Unit {0}

abbrev pub AreNumbered : SpecTree → List Entry → List Entry → Type 0
AreNumbered spec before [] = Unit {0}
AreNumbered spec before (entry ∷ entries) = IsNumbered spec before entry.object entry.deed × AreNumbered spec (before ++ entry ∷ []) entries

-- the entries stand in the order of one lane
abbrev pub IsInOrder : SpecTree → List Entry → Type 0
IsInOrder spec entries = AreNumbered spec [] entries
