-- The items of a list, from a number on.
use Rattle.std.proofs.Common.{◌≡◌, ℕ, zero, suc, ◌+◌, ◌<◌, List, [], ◌∷◌, length, drop, get_or, ap, sym, ◌∙◌, arith, add-one}
use Rattle.abstract_syntax.specs.Expressions.{one_expr}
use Rattle.expr_tree.specs.View.{expr_trees, view_of, views_of}
use Rattle.expr_tree.specs.declared.expr.Expr.{Expr}

item_dropped : (items : List Expr) (n : ℕ) (x : Expr) → n < length items → x ≡ get_or items n x → drop n (views_of items) ≡ view_of x ∷ drop (suc n) (views_of items)
item_dropped [] n x h e = absurd (omega arith)
item_dropped (y ∷ ys) zero x h e = ap (λ z. view_of z ∷ views_of ys) (sym e)
item_dropped (y ∷ ys) (suc n) x h e = item_dropped ys n x (omega arith) e

pub first_item : (items : List Expr) (n : ℕ) (x : Expr) → n < length items → x ≡ get_or items n x
    → expr_trees (drop n (views_of items)) ≡ one_expr (view_of x) (expr_trees (drop (n + 1) (views_of items)))
first_item items n x h e =
    ap expr_trees (item_dropped items n x h e) ∙ ap (λ k. one_expr (view_of x) (expr_trees (drop k (views_of items)))) (sym (add-one n))
