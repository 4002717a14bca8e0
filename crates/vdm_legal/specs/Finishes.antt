-- How a list of entries ends.
use Rattle.std.specs.Prelude.{List, [], ◌∷◌, Option, Some, None}
use Rattle.vdm_kinds.specs.declared.place.Place.{Place}
use Rattle.vdm_kinds.specs.declared.run_fault.RunFault.{RunFault}
use Rattle.vdm_values.specs.declared.slot.Slot.{Slot}
use Rattle.run_journal.specs.declared.deed.Deed.{Deed}
use Rattle.run_journal.specs.declared.deed.Deed.TheVariants.{End, Fail}
use Rattle.run_journal.specs.declared.entry.Entry.{Entry}
use Rattle.run_journal.specs.declared.thread.Thread.{Thread}
use Rattle.run_journal.specs.declared.thread.Thread.TheVariants.{Main}

-- how a run ends: main's value, or a thread's fault
pub data Finish : Type 0 where
  ended : Slot → Finish
  failed : RunFault → Slot → Thread → Place → Finish

-- what an entry decides
abbrev pub decided : Thread → Deed → Option Finish
decided Main (End value) = Some (ended value)
decided thread (Fail fault exit place) = Some (failed fault exit thread place)
decided thread _ = None

abbrev pub first_of : {A : Type 0} → Option A → Option A → Option A
first_of (Some a) b = Some a
first_of None b = b

-- the first End of main or Fail of any thread decides the run
abbrev pub finish_of : List Entry → Option Finish
finish_of [] = None
finish_of (entry ∷ entries) = first_of (decided entry.thread entry.deed) (finish_of entries)
