-- The first pattern of a list.
use Rattle.std.proofs.Common.{◌≡◌, ◌≤◌, List, [], ◌∷◌, length, Bool, false, refl, arith}
use Rattle.expr_tree.specs.declared.pattern.Pattern.{Pattern}
use Rattle.expr_tree.specs.View.{pattern_trees, pattern_views}
use Rattle.tree_nodes.specs.Emptiness.{is_empty_patterns}

pub patterns-more : (items : List Pattern) → 1 ≤ length items → false ≡ is_empty_patterns (pattern_trees (pattern_views items))
patterns-more [] h = absurd (omega arith)
patterns-more (item ∷ items) h = refl
