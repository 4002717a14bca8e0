-- The parts of a list of entries: those of one object, and those of one thread, each in order.
use Rattle.std.specs.Prelude.{ℕ, ◌==◌, Bool, List}
use Rattle.std.specs.List.{filter}
use Rattle.run_journal.specs.declared.thread.Thread.{Thread}
use Rattle.run_journal.specs.declared.entry.Entry.{Entry}
use Rattle.run_journal.specs.Threads.{is_thread}

-- whether an entry stands on the object
abbrev pub is_on : ℕ → Entry → Bool
is_on object e = e.object == object

-- whether an entry is of the thread
abbrev pub is_by : Thread → Entry → Bool
is_by thread e = is_thread e.thread thread

-- the entries on the object
abbrev pub object_part : ℕ → List Entry → List Entry
object_part object = filter (is_on object)

-- the entries of the thread
abbrev pub thread_part : Thread → List Entry → List Entry
thread_part thread = filter (is_by thread)
