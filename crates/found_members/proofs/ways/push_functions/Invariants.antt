use Rattle.std.proofs.Common.{◌≡◌, ◌++◌, drop, map}
use Rattle.vdm_tree.specs.ClassView.{function_view}
use Rattle.class_meaning.specs.Members.{of_function}
use Rattle.found_members.specs.Ways.{way_of}
use Rattle.found_members.proofs.ways.push_functions.Given as goal

-- those so far are pushed, and those of the rest
abbrev pub invariant-loop-definition : goal.invariant-loop-definition
invariant-loop-definition l =
    l.ways.items ++ map way_of (map of_function (map function_view (drop l.definition-index l.definitions)))
    ≡ l.fn.ways.items ++ map way_of (map of_function (map function_view l.definitions))
