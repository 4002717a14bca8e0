use Rattle.std.proofs.Common.{◌≡◌, ◌++◌, map, drop}
use Rattle.expr_tree.specs.View.{defined_trees, defined_view}
use Rattle.spec_checks.specs.Targets.{defined_names}
use Rattle.stmt_scopes.proofs.names.names_defined.Given as goal

abbrev pub invariant-loop-definition : goal.invariant-loop-definition
invariant-loop-definition l =
    l.names.items ++ defined_names (defined_trees (map defined_view (drop l.definition-index l.definitions)))
    ≡ defined_names (defined_trees (map defined_view l.definitions))
