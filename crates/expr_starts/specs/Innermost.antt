-- What is innermost where something is wanted.
use Rattle.std.specs.Prelude.{List, ◌∷◌}
use Rattle.abstract_syntax.specs.Expressions.{no_exprs, one_expr, no_patterns}
use Rattle.grammar_trees.specs.Frames.{Frame, items, pattern_items}

-- no list of expressions
abbrev pub NoList : List Frame → Type 0
NoList (items listed es place ∷ fs) = ⊥
NoList _ = Unit {0}

-- no list that is without an item so far
abbrev pub NoEmptyList : List Frame → Type 0
NoEmptyList (items listed no_exprs place ∷ fs) = ⊥
NoEmptyList _ = Unit {0}

-- no list that has just one item so far
abbrev pub NoListOfOne : List Frame → Type 0
NoListOfOne (items listed (one_expr e no_exprs) place ∷ fs) = ⊥
NoListOfOne _ = Unit {0}

-- no list of patterns that is without a pattern so far
abbrev pub NoEmptyPatterns : List Frame → Type 0
NoEmptyPatterns (pattern_items listed no_patterns place ∷ fs) = ⊥
NoEmptyPatterns _ = Unit {0}
