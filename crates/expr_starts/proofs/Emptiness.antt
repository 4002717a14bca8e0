-- Lists that are not empty.
use Rattle.std.proofs.Common.{◌≡◌, ◌≤◌, List, [], ◌∷◌, ◌++◌, length, map, false, refl, sym, subst, arith}
use Rattle.expr_tree.specs.declared.expr.Expr.{Expr}
use Rattle.expr_tree.specs.declared.parts.Case.{Case}
use Rattle.expr_tree.specs.declared.pattern.Pattern.{Pattern}
use Rattle.expr_tree.specs.View.{expr_trees, views_of, pattern_trees, pattern_views, case_trees, case_view}
use Rattle.tree_nodes.specs.Emptiness.{is_empty_exprs, is_empty_patterns, is_empty_cases, IsNotOnly}

pub patterns-more : (items : List Pattern) → 1 ≤ length items → false ≡ is_empty_patterns (pattern_trees (pattern_views items))
patterns-more [] h = absurd (omega arith)
patterns-more (item ∷ items) h = refl

pub cases-more : (cases : List Case) → 1 ≤ length cases → false ≡ is_empty_cases (case_trees (map case_view cases))
cases-more [] h = absurd (omega arith)
cases-more (item ∷ items) h = refl

-- a list has more than its last item where something is left without it
left-over : (items : List Expr) (last : Expr) → is_empty_exprs (expr_trees (views_of items)) ≡ false → IsNotOnly (expr_trees (views_of (items ++ last ∷ [])))
left-over [] last h = cc
left-over (first ∷ []) last h = tt
left-over (first ∷ second ∷ items) last h = tt

pub not-only : (all items : List Expr) (last : Expr) → all ≡ items ++ last ∷ [] → is_empty_exprs (expr_trees (views_of items)) ≡ false → IsNotOnly (expr_trees (views_of all))
not-only all items last e h = subst (λ (some : List Expr). IsNotOnly (expr_trees (views_of some))) (sym e) (left-over items last h)
