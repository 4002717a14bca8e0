use Rattle.std.proofs.Common.{◌≡◌, ◌+◌, ◌||◌, drop}
use Rattle.expr_tree.specs.View.{pattern_views, pattern_trees}
use Rattle.patterns.specs.Lengths.{least_length, is_open}
use Rattle.patterns.proofs.lengths.left_for.Given as goal

-- what is left for those so far, and what the rest needs
abbrev pub invariant-loop-pattern : goal.invariant-loop-pattern
invariant-loop-pattern l = record {
  left : l.left + least_length (pattern_trees (pattern_views l.patterns)) ≡
      l.fn.items + least_length (pattern_trees (pattern_views (drop l.pattern-index l.patterns)));
  open_ : (l.open || is_open (pattern_trees (pattern_views (drop l.pattern-index l.patterns)))) ≡ is_open (pattern_trees (pattern_views l.patterns));
}
