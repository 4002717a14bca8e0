-- The entries that an iterator is to give.
use Rattle.std.specs.Prelude.{Bool, List}
use Rattle.std.specs.List.{filter}
use Rattle.run_journal.specs.declared.entry.Entry.{Entry}
use Rattle.journal_entries.specs.declared.entries_of.Wanted.{Wanted}
use Rattle.journal_entries.specs.declared.entries_of.Wanted.TheVariants.{On, By}
use Rattle.run_journal.specs.Parts.{is_on, is_by}

-- whether an entry is wanted
abbrev pub is_wanted : Wanted → Entry → Bool
is_wanted (On object) = is_on object
is_wanted (By thread) = is_by thread

-- the entries that are wanted
abbrev pub wanted_part : Wanted → List Entry → List Entry
wanted_part wanted = filter (is_wanted wanted)
