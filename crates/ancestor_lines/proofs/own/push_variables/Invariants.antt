use Rattle.std.proofs.Common.{◌≡◌, ◌++◌, map, drop}
use Rattle.abstract_syntax.specs.Classes.{variables_among}
use Rattle.vdm_tree.specs.ClassView.{variable_item_view}
use Rattle.ancestor_lines.specs.Parts.{chosen}
use Rattle.ancestor_lines.proofs.own.push_variables.Given as goal

-- the variables so far, and those of the rest
abbrev pub invariant-loop-item : goal.invariant-loop-item
invariant-loop-item l =
    l.found.items ++ chosen l.class l.is_static (variables_among (map variable_item_view (drop l.item-index l.item-items)))
    ≡ l.initial.found.items ++ chosen l.class l.is_static (variables_among (map variable_item_view l.item-items))
