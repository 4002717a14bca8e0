-- Which entry may stand behind others at its object.
use Rattle.std.specs.Prelude.{◌≡◌, ◌≢◌, ◌<◌, ℕ, not, List, []}
use Rattle.abstract_syntax.specs.Classes.{SpecTree}
use Rattle.run_journal.specs.declared.deed.Deed.{Deed}
use Rattle.run_journal.specs.declared.deed.Deed.TheVariants.{Class, New, Req, Act, Fin, Read, Write, Print, Time, End, Fail}
use Rattle.run_journal.specs.declared.entry.Entry.{Entry}
use Rattle.vdm_legal.specs.ClassObjects.{IsClassObject, IsAboveClassObjects}
use Rattle.vdm_legal.specs.State.{state_of, keeps_with, requests, activations, finishes, ticks}

-- A deed is legal on an object behind the object's entries. An operation is activated where one of its name is waiting: so far
-- no clause forbids it. It finishes where one of its name is active. What is read is what the variable holds. A write is refused exactly
-- where an invariant of the object would not hold behind it. The time is the number of ticks. Deeds that no code asks for yet are never legal.
abbrev pub IsLegalAtObject : SpecTree → ℕ → List Entry → Deed → Type 0
IsLegalAtObject spec object before (Class class slots) = (before ≡ []) × IsClassObject spec object class
IsLegalAtObject spec object before (New class slots) = (before ≡ []) × IsAboveClassObjects spec object
IsLegalAtObject spec object before (Req op) = before ≢ []
IsLegalAtObject spec object before (Act op) = (before ≢ []) × (activations op.name before < requests op.name before)
IsLegalAtObject spec object before (Fin op) = (before ≢ []) × (finishes op.name before < activations op.name before)
IsLegalAtObject spec object before (Read var slot) = (before ≢ []) × (state_of spec before var ≡ slot)
IsLegalAtObject spec object before (Write writes refused) = (before ≢ []) × (refused ≡ not (keeps_with spec before writes))
IsLegalAtObject spec object before (Print text) = before ≢ []
IsLegalAtObject spec object before (Time told) = (before ≢ []) × (ticks before ≡ told)
IsLegalAtObject spec object before (End slot) = before ≢ []
IsLegalAtObject spec object before (Fail fault exit place) = before ≢ []
IsLegalAtObject spec object before _ = ⊥
