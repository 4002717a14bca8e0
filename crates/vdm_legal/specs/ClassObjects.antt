-- The class objects of a specification, and their numbers.
use Rattle.std.specs.Prelude.{◌≡◌, ◌≢◌, ◌<◌, ◌≤◌, ℕ, List, [], length, Some, slice_get}
use Rattle.vdm_kinds.specs.declared.name.Name.{Name}
use Rattle.abstract_syntax.specs.Classes.{SpecTree}
use Rattle.class_meaning.specs.Classes.{class_names}
use Rattle.run_journal.specs.declared.entry.Entry.{Entry}
use Rattle.run_journal.specs.declared.question.Question.{Question}
use Rattle.run_journal.specs.declared.question.Question.TheVariants.{Class, Fail}
use Rattle.run_journal.specs.Parts.{object_part}

-- the classes whose class objects are made, in order: `IO`, whose class object is object 0, and then those of the text
abbrev pub classes_of : SpecTree → List Name
classes_of = class_names

-- the object is the class object of the class: the numbers of class objects are the places of their classes
abbrev pub IsClassObject : SpecTree → ℕ → Name → Type 0
IsClassObject spec object class = slice_get (classes_of spec) object ≡ Some class

-- the number is above those of all class objects
abbrev pub IsAboveClassObjects : SpecTree → ℕ → Type 0
IsAboveClassObjects spec object = length (classes_of spec) ≤ object

-- something stands on each class object
abbrev pub AreMade : SpecTree → List Entry → Type 0
AreMade spec entries = (object : ℕ) → object < length (classes_of spec) → object_part object entries ≢ []

-- before all class objects are made only these are asked for, or a failure
abbrev pub IsInTurn : SpecTree → List Entry → Question → Type 0
IsInTurn spec before (Class object class slots) = Unit {0}
IsInTurn spec before (Fail fault exit place) = Unit {0}
IsInTurn spec before _ = AreMade spec before
