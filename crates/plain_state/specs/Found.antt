-- Where in a list of entries the first on an object stands, and the last that wrote a variable.
use Rattle.std.specs.Prelude.{◌≡◌, ℕ, ◌+◌, ◌≤◌, Bool, true, false, ◌&&◌, nat_eq, List, take, drop, length, slice_get, Option, Some, None}
use Rattle.std.specs.Option.{is_some}
use Rattle.std.specs.HashMap.{HashMap, get}
use Rattle.vdm_kinds.specs.declared.member.VarRef.{VarRef}
use Rattle.run_journal.specs.declared.deed.Deed.{Deed}
use Rattle.run_journal.specs.declared.entry.Entry.{Entry}
use Rattle.run_journal.specs.Parts.{object_part}
use Rattle.vdm_legal.specs.State.{last_written, written_by}

-- a variable of an object: the numbers of the object, of the class and of the name
abbrev pub Place : Type 0
Place = ℕ × ℕ × ℕ

abbrev pub place_of : ℕ → VarRef → Place
place_of object var = (object, var.class.0, var.name.0)

abbrev pub same_place : Place → Place → Bool
same_place a b = (nat_eq a.0 b.0 && nat_eq a.1 b.1) && nat_eq a.2 b.2

-- how many entries stand up to that of the number; none where there is no number
abbrev pub through : Option ℕ → ℕ
through None = 0
through (Some number) = number + 1

-- no entry behind that of the number writes the variable of the object
abbrev pub IsLast : List Entry → ℕ → VarRef → Option ℕ → Type 0
IsLast entries object var number = is_some (last_written var (object_part object (drop (through number) entries))) ≡ false

-- the map has for each variable of an object the number of the last entry that wrote it
abbrev pub FindsWrites : {S : Type 0} → HashMap Place ℕ S → List Entry → Type 0
FindsWrites writes entries = (object : ℕ) → (var : VarRef) → IsLast entries object var (get same_place writes (place_of object var))

-- so many entries stand before the first on the object
abbrev pub IsFirst : List Entry → ℕ → ℕ → Type 0
IsFirst entries object number = (number ≤ length entries) × (length (object_part object (take number entries)) ≡ 0)

-- the list has for each of its objects the number of the object's first entry
abbrev pub FindsFirsts : List ℕ → List Entry → Type 0
FindsFirsts firsts entries = (object : ℕ) → (number : ℕ) → slice_get firsts object ≡ Some number → IsFirst entries object number

-- each variable that the deed writes has the number
abbrev pub AreNoted : {S : Type 0} → HashMap Place ℕ S → ℕ → Deed → ℕ → Type 0
AreNoted writes object deed number = (var : VarRef) → is_some (written_by var deed) ≡ true → get same_place writes (place_of object var) ≡ Some number
