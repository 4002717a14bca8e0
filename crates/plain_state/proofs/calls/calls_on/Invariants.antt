use Rattle.std.proofs.Common.{◌≡◌, ◌≤◌, ◌+◌, drop}
use Rattle.run_journal.specs.Parts.{object_part}
use Rattle.vdm_legal.specs.State.{count_of}
use Rattle.plain_state.specs.Phases.{tells}
use Rattle.plain_state.proofs.calls.calls_on.Given as goal

-- the count so far and that of the rest
abbrev pub invariant-loop-entry : goal.invariant-loop-entry
invariant-loop-entry l = record {
  small : l.count ≤ l.entry-index;
  counted : l.count + count_of (tells l.phase l.name) (object_part l.object (drop l.entry-index l.entries)) ≡ count_of (tells l.phase l.name) (object_part l.object l.entries);
}
