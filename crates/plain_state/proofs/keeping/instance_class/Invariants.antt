use Rattle.std.proofs.Common.{◌≡◌, drop}
use Rattle.run_journal.specs.Parts.{object_part}
use Rattle.vdm_legal.specs.State.{instance_class}
use Rattle.plain_state.proofs.keeping.instance_class.Given as goal

-- the entries that were passed stand on other objects
abbrev pub invariant-loop-entry : goal.invariant-loop-entry
invariant-loop-entry l = instance_class (object_part l.object (drop l.entry-index l.entries)) ≡ instance_class (object_part l.object l.entries)
