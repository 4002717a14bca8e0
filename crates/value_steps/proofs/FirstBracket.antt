-- The expressions in brackets, from a number on.
use Rattle.std.proofs.Common.{◌≡◌, ℕ, zero, suc, ◌+◌, ◌<◌, List, [], ◌∷◌, map, length, drop, get_or, ap, sym, ◌∙◌, arith, add-one, Bor}
use Rattle.std.specs.Prelude.{Box}
use Rattle.std.specs.declared.alloc.Global.{Global}
use Rattle.expr_tree.specs.View.{boxed_view}
use Rattle.expr_tree.specs.declared.expr.Expr.{Expr}
use Rattle.abstract_syntax.specs.Expressions.{one_expr}
use Rattle.node_meaning.specs.Matching.{exprs_of}
use Rattle.eval_data.specs.Parts.{boxed_list}

first_dropped : {A B : Type 0} (f : A → B) (xs : List A) (n : ℕ) (x : A) → n < length xs → x ≡ get_or xs n x → drop n (map f xs) ≡ f x ∷ drop (suc n) (map f xs)
first_dropped f [] n x h e = absurd (omega arith)
first_dropped f (y ∷ ys) zero x h e = ap (λ z. f z ∷ map f ys) (sym e)
first_dropped f (y ∷ ys) (suc n) x h e = first_dropped f ys n x (omega arith) e

pub first_bracket : (found : List (Bor (Box Expr Global))) (n : ℕ) (x : Bor (Box Expr Global)) → n < length found → x ≡ get_or found n x
    → exprs_of (drop n (boxed_list found)) ≡ one_expr (boxed_view x.now) (exprs_of (drop (n + 1) (boxed_list found)))
first_bracket found n x h e =
    ap exprs_of (first_dropped (λ (r : Bor (Box Expr Global)). boxed_view r.now) found n x h e)
    ∙ ap (λ k. one_expr (boxed_view x.now) (exprs_of (drop k (boxed_list found)))) (sym (add-one n))
