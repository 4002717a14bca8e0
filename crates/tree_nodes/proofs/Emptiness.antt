-- Lists that are not empty.
use Rattle.std.proofs.Common.{◌≡◌, ◌≤◌, List, [], ◌∷◌, length, false, refl, arith}
use Rattle.expr_tree.specs.declared.expr.Expr.{Expr}
use Rattle.expr_tree.specs.View.{expr_trees, views_of}
use Rattle.tree_nodes.specs.Emptiness.{is_empty_exprs}

pub exprs-more : (items : List Expr) → 1 ≤ length items → false ≡ is_empty_exprs (expr_trees (views_of items))
exprs-more [] h = absurd (omega arith)
exprs-more (item ∷ items) h = refl
