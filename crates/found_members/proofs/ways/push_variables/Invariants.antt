use Rattle.std.proofs.Common.{◌≡◌, ◌++◌, drop, map}
use Rattle.vdm_tree.specs.ClassView.{variable_item_view}
use Rattle.abstract_syntax.specs.Classes.{variables_among}
use Rattle.class_meaning.specs.Members.{of_variable}
use Rattle.found_members.specs.Ways.{way_of}
use Rattle.found_members.proofs.ways.push_variables.Given as goal

-- those so far are pushed, and those of the rest
abbrev pub invariant-loop-item : goal.invariant-loop-item
invariant-loop-item l =
    l.ways.items ++ map way_of (map of_variable (variables_among (map variable_item_view (drop l.item-index l.items))))
    ≡ l.fn.ways.items ++ map way_of (map of_variable (variables_among (map variable_item_view l.items)))
