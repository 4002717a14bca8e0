use Rattle.std.proofs.Common.{◌≡◌, map, flat_map, drop}
use Rattle.vdm_tree.specs.ClassView.{block_view}
use Rattle.class_meaning.specs.Members.{members_in}
use Rattle.table_faults.specs.Firsts.{members_fault, no_members}
use Rattle.table_faults.specs.Known.{known_of}
use Rattle.table_faults.specs.Tables.{spec_in}
use Rattle.table_faults.proofs.table.Table.members_fault.Given as goal

-- no refusal so far, so that the other blocks decide
abbrev pub invariant-loop-block : goal.invariant-loop-block
invariant-loop-block l =
    members_fault (spec_in l.self) l.k (known_of l.seen) (flat_map members_in (map block_view (drop l.block-index l.blocks)))
    ≡ members_fault (spec_in l.self) l.k no_members (flat_map members_in (map block_view l.blocks))
