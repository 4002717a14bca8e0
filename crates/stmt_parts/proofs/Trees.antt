-- Lists of parts as trees.
use Rattle.std.proofs.Common.{◌≡◌, ℕ, ◌<◌, List, [], ◌∷◌, length, map, None, refl, ap, arith}
use Rattle.abstract_syntax.specs.Expressions.{PatternTree, one_pattern}
use Rattle.expr_tree.specs.declared.expr.Expr.{Expr}
use Rattle.expr_tree.specs.View.{expr_trees, pattern_trees, views_of}
use Rattle.stmt_reading.specs.Statements.{patterns_tree}
use Rattle.stmt_parts.specs.Targets.{only}

pub same_patterns : (ps : List PatternTree) → patterns_tree ps ≡ pattern_trees ps
same_patterns [] = refl
same_patterns (p ∷ ps) = ap (one_pattern p) (same_patterns ps)

-- of two arguments none is the only one
pub only-many : (es : List Expr) → 1 < length es → only (expr_trees (views_of es)) ≡ None
only-many [] many = absurd (omega (arith, many))
only-many (e ∷ []) many = absurd (omega (arith, many))
only-many (e ∷ f ∷ es) many = refl
