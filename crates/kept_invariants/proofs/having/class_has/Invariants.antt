use Rattle.std.proofs.Common.{◌≡◌, map, drop}
use Rattle.std.specs.List.{flat_map}
use Rattle.vdm_tree.specs.ClassView.{block_view}
use Rattle.stmt_meaning.specs.Keeping.{conditions_in}
use Rattle.kept_invariants.specs.Presence.{has_any}
use Rattle.kept_invariants.proofs.having.class_has.Given as goal

abbrev pub invariant-loop-block : goal.invariant-loop-block
invariant-loop-block l =
    has_any (flat_map conditions_in (map block_view (drop l.block-index l.class.blocks.items)))
    ≡ has_any (flat_map conditions_in (map block_view l.class.blocks.items))
