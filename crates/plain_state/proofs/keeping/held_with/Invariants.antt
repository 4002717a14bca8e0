use Rattle.std.proofs.Common.{◌≡◌, map, take}
use Rattle.vdm_kinds.specs.declared.member.VarRef.{VarRef}
use Rattle.run_journal.specs.Parts.{object_part}
use Rattle.spec_table.specs.Tables.{table_spec}
use Rattle.vdm_legal.specs.State.{state_with}
use Rattle.plain_state.proofs.keeping.held_with.Given as goal

-- the variables so far
abbrev pub invariant-loop-var : goal.invariant-loop-var
invariant-loop-var l =
    l.held.items ≡ map (λ (var : VarRef). (var, state_with (table_spec l.table) (object_part l.object l.entries) l.writes var)) (take l.var-index l.variables)
