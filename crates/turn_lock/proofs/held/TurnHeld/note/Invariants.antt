-- The entry that is noted: what the value's list has behind what was seen.
use Rattle.std.proofs.Common.{drop, length}
use Rattle.turn_lock.proofs.held.TurnHeld.note.Given as goal

abbrev pub ghosts-count_note : goal.ghosts-count_note
ghosts-count_note g a = record { added = drop (length a.seat.now.me.0.seen) (g.V.Storied.story a._value.now) }
