use Rattle.std.proofs.Common.{◌≡◌, map, drop}
use Rattle.std.specs.List.{flat_map}
use Rattle.vdm_tree.specs.ClassView.{block_view}
use Rattle.spec_checks.specs.Threads.{block_left_out}
use Rattle.class_checks.specs.Results.{first_among}
use Rattle.sync_checks.specs.Below.check_scopes.specs.Told.{first_in}
use Rattle.spec_check.proofs.left_out.refuse_in_blocks.Given as goal

-- those that are left, behind what was refused so far
abbrev pub invariant-loop-block : goal.invariant-loop-block
invariant-loop-block l =
    first_among (first_in l.refusals) (flat_map block_left_out (map block_view (drop l.block-index l.blocks)))
    ≡ first_among (first_in l.fn.refusals) (flat_map block_left_out (map block_view l.blocks))
