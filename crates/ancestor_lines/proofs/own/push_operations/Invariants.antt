use Rattle.std.proofs.Common.{◌≡◌, ◌++◌, map, drop}
use Rattle.vdm_tree.specs.ClassView.{operation_view}
use Rattle.ancestor_lines.specs.Parts.{names_of}
use Rattle.ancestor_lines.proofs.own.push_operations.Given as goal

-- the names so far, and those of the rest
abbrev pub invariant-loop-definition : goal.invariant-loop-definition
invariant-loop-definition l =
    l.found.items ++ names_of (map operation_view (drop l.definition-index l.definition-items))
    ≡ l.initial.found.items ++ names_of (map operation_view l.definition-items)
