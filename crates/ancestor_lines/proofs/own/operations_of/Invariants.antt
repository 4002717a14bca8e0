use Rattle.std.proofs.Common.{◌≡◌, ◌++◌, map, drop, flat_map}
use Rattle.abstract_syntax.specs.Classes.{operations_in}
use Rattle.vdm_tree.specs.ClassView.{block_view}
use Rattle.ancestor_lines.specs.Parts.{names_of}
use Rattle.ancestor_lines.proofs.own.operations_of.Given as goal

-- the names so far, and those of the rest
abbrev pub invariant-loop-block : goal.invariant-loop-block
invariant-loop-block l =
    l.found.items ++ names_of (flat_map operations_in (map block_view (drop l.block-index l.block-items)))
    ≡ names_of (flat_map operations_in (map block_view l.block-items))
