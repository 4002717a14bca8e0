use Rattle.std.proofs.Common.{◌≡◌, drop}
use Rattle.run_journal.specs.Parts.{object_part}
use Rattle.spec_table.specs.Tables.{table_spec}
use Rattle.vdm_legal.specs.State.{first_slot}
use Rattle.plain_state.proofs.layout.first_slot.Given as goal

-- the entries that were passed stand on other objects
abbrev pub invariant-loop-entry : goal.invariant-loop-entry
invariant-loop-entry l =
    first_slot (table_spec l.table) l.var (object_part l.object (drop l.entry-index l.entries)) ≡ first_slot (table_spec l.table) l.var (object_part l.object l.entries)
