use Rattle.std.proofs.Common.{◌≡◌, ◌++◌, drop, map}
use Rattle.expr_tree.specs.TypeDefView.{type_def_view}
use Rattle.class_meaning.specs.Members.{of_type}
use Rattle.found_members.specs.Ways.{way_of}
use Rattle.found_members.proofs.ways.push_types.Given as goal

-- those so far are pushed, and those of the rest
abbrev pub invariant-loop-definition : goal.invariant-loop-definition
invariant-loop-definition l =
    l.ways.items ++ map way_of (map of_type (map type_def_view (drop l.definition-index l.definitions)))
    ≡ l.fn.ways.items ++ map way_of (map of_type (map type_def_view l.definitions))
