use Rattle.std.proofs.Common.{◌≡◌, ◌++◌, map, drop}
use Rattle.expr_tree.specs.View.{pattern_views, pattern_trees, maplet_pattern_view, maplet_pattern_trees}
use Rattle.spec_checks.specs.Targets.{maplets_names, patterns_names}
use Rattle.stmt_scopes.proofs.names.+named.Given as goal

abbrev pub invariant-with_each-loop-pattern : goal.invariant-with_each-loop-pattern
invariant-with_each-loop-pattern l =
    l.names.items ++ patterns_names (pattern_trees (pattern_views (drop l.pattern-index l.patterns)))
    ≡ l.initial.names.items ++ patterns_names (pattern_trees (pattern_views l.patterns))

abbrev pub invariant-with_each_pair-loop-maplet : goal.invariant-with_each_pair-loop-maplet
invariant-with_each_pair-loop-maplet l =
    l.names.items ++ maplets_names (maplet_pattern_trees (map maplet_pattern_view (drop l.maplet-index l.maplets)))
    ≡ l.initial.names.items ++ maplets_names (maplet_pattern_trees (map maplet_pattern_view l.maplets))
