use Rattle.std.proofs.Common.{◌≡◌, drop}
use Rattle.spec_table.specs.Tables.{table_spec}
use Rattle.kept_invariants.proofs.Conditions.{blocks_hold}
use Rattle.kept_invariants.proofs.own.blocks_hold.Given as goal

-- those so far hold, so that the rest decides
abbrev pub invariant-loop-block : goal.invariant-loop-block
invariant-loop-block l = blocks_hold (table_spec l.table) l.env (drop l.block-index l.blocks) ≡ blocks_hold (table_spec l.table) l.env l.blocks
