use Rattle.std.proofs.Common.{◌≡◌, ◌++◌, map, drop, flat_map}
use Rattle.abstract_syntax.specs.Classes.{variables_in}
use Rattle.vdm_tree.specs.ClassView.{block_view}
use Rattle.ancestor_lines.specs.Parts.{chosen}
use Rattle.ancestor_lines.proofs.own.variables_of.Given as goal

-- the variables so far, and those of the rest
abbrev pub invariant-loop-block : goal.invariant-loop-block
invariant-loop-block l =
    l.found.items ++ chosen l.class.name l.is_static (flat_map variables_in (map block_view (drop l.block-index l.block-items)))
    ≡ chosen l.class.name l.is_static (flat_map variables_in (map block_view l.block-items))
