use Rattle.std.proofs.Common.{◌≡◌, ◌≤◌, ◌+◌, drop}
use Rattle.run_journal.specs.Parts.{object_part}
use Rattle.vdm_legal.specs.State.{ticks}
use Rattle.plain_state.proofs.calls.ticks_on.Given as goal

-- the count so far and that of the rest
abbrev pub invariant-loop-entry : goal.invariant-loop-entry
invariant-loop-entry l = record {
  small : l.count ≤ l.entry-index;
  counted : l.count + ticks (object_part l.object (drop l.entry-index l.entries)) ≡ ticks (object_part l.object l.entries);
}
