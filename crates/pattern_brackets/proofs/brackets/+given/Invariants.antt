use Rattle.std.proofs.Common.{◌≡◌, ◌++◌, map, drop}
use Rattle.expr_tree.specs.View.{pattern_views, pattern_trees, maplet_pattern_view, maplet_pattern_trees}
use Rattle.pattern_meaning.specs.Brackets.{given_in_each, given_in_maplets}
use Rattle.pattern_brackets.specs.Exprs.{expr_trees}
use Rattle.pattern_brackets.proofs.brackets.+given.Given as goal

abbrev pub invariant-with_each_given-loop-pattern : goal.invariant-with_each_given-loop-pattern
invariant-with_each_given-loop-pattern l =
    expr_trees l.found.items ++ given_in_each (pattern_trees (pattern_views (drop l.pattern-index l.patterns)))
    ≡ expr_trees l.initial.found.items ++ given_in_each (pattern_trees (pattern_views l.patterns))

abbrev pub invariant-with_each_pair-loop-maplet : goal.invariant-with_each_pair-loop-maplet
invariant-with_each_pair-loop-maplet l =
    expr_trees l.found.items ++ given_in_maplets (maplet_pattern_trees (map maplet_pattern_view (drop l.maplet-index l.maplets)))
    ≡ expr_trees l.initial.found.items ++ given_in_maplets (maplet_pattern_trees (map maplet_pattern_view l.maplets))
