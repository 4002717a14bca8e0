use Rattle.std.proofs.Common.{◌≡◌, ◌++◌, drop, map}
use Rattle.vdm_tree.specs.ClassView.{value_def_view}
use Rattle.class_meaning.specs.Members.{of_value}
use Rattle.found_members.specs.Ways.{way_of}
use Rattle.found_members.proofs.ways.push_values.Given as goal

-- those so far are pushed, and those of the rest
abbrev pub invariant-loop-definition : goal.invariant-loop-definition
invariant-loop-definition l =
    l.ways.items ++ map way_of (map of_value (map value_def_view (drop l.definition-index l.definitions)))
    ≡ l.fn.ways.items ++ map way_of (map of_value (map value_def_view l.definitions))
