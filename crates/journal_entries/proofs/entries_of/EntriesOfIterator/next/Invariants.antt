use Rattle.std.proofs.Common.{◌≡◌, length}
use Rattle.journal_entries.specs.Wanted.{wanted_part}
use Rattle.journal_entries.proofs.entries_of.EntriesOfIterator.next.Given as goal

-- what is left to give stays what it was
abbrev pub invariant-loop-first : goal.invariant-loop-first
invariant-loop-first l =
    wanted_part l.self-inside.wanted l.self-inside.entries.now ≡ wanted_part l.initial.self-inside.wanted l.initial.self-inside.entries.now

abbrev pub decreases-loop-first : goal.decreases-loop-first
decreases-loop-first l = length l.self-inside.entries.now
