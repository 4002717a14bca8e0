use Rattle.std.proofs.Common.{◌≡◌, ◌+◌, ◌*◌, map, drop}
use Rattle.expr_tree.specs.View.{pattern_view, pattern_views, pattern_trees, maplet_pattern_view, maplet_pattern_trees}
use Rattle.class_checks.specs.Patterns.{patterns_faults, maplets_faults}
use Rattle.class_checks.specs.Results.{first_among}
use Rattle.check_types.specs.Below.check_scopes.specs.Told.{first_in, spec_in, types_in}
use Rattle.check_patterns.proofs.PatternSizes.{nodes, nodes_in, nodes_among}
use Rattle.check_patterns.proofs.refused.+refusing.Given as goal

abbrev pub decreases-refuse : goal.decreases-refuse
decreases-refuse l = 2 * nodes (pattern_view l.pattern.now)

abbrev pub decreases-refuse_each : goal.decreases-refuse_each
decreases-refuse_each l = 2 * nodes_in l.patterns.now + 1

abbrev pub decreases-refuse_pairs : goal.decreases-refuse_pairs
decreases-refuse_pairs l = 2 * nodes_among l.maplets.now + 1

abbrev pub invariant-refuse_each-loop-pattern : goal.invariant-refuse_each-loop-pattern
invariant-refuse_each-loop-pattern l =
    first_among (first_in l.now) (patterns_faults (spec_in l.setting) (types_in l.setting) (pattern_trees (pattern_views (drop l.pattern-index l.patterns))))
    ≡ first_among (first_in l.fn.refusals) (patterns_faults (spec_in l.setting) (types_in l.setting) (pattern_trees (pattern_views l.patterns)))

abbrev pub invariant-refuse_pairs-loop-maplet : goal.invariant-refuse_pairs-loop-maplet
invariant-refuse_pairs-loop-maplet l =
    first_among (first_in l.now) (maplets_faults (spec_in l.setting) (types_in l.setting) (maplet_pattern_trees (map maplet_pattern_view (drop l.maplet-index l.maplets))))
    ≡ first_among (first_in l.fn.refusals) (maplets_faults (spec_in l.setting) (types_in l.setting) (maplet_pattern_trees (map maplet_pattern_view l.maplets)))
