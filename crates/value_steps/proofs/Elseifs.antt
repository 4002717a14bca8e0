-- Branches with one at their head.
use Rattle.std.proofs.Common.{◌≡◌, ◌-◌, ◌≤◌, suc, refl, List, [], ◌∷◌, map, length, take, drop, get_or, ap, sym, ◌∙◌, arith, rules}
use Rattle.abstract_syntax.specs.Expressions.{one_branch}
use Rattle.expr_tree.specs.declared.parts.Branch.{Branch, the_lemmas}
use Rattle.expr_tree.specs.View.{BranchView, view_of, boxed_view, branch_view, branch_trees}

whole : {A : Type 0} (xs : List A) → take (length xs) xs ≡ xs
whole [] = refl
whole (x ∷ xs) = ap (λ others. x ∷ others) (whole xs)

headed : {A : Type 0} (xs : List A) (x : A) → 1 ≤ length xs → x ≡ get_or xs 0 x → xs ≡ x ∷ take (length xs - 1) (drop 1 xs)
headed [] x h e = absurd (omega arith)
headed (y ∷ ys) x h e =
    let n : length ys ≡ suc (length ys) - 1 = omega arith in
    (λ i. sym e i ∷ sym (whole ys) i) ∙ ap (λ k. x ∷ take k ys) n

viewed : (b : Branch) → branch_view b ≡ record { condition = view_of b.condition.value; value = view_of b.value.value }
viewed b = search (rules, the_lemmas)

pub first_branch : (bs : List Branch) (b : Branch) → 1 ≤ length bs → b ≡ get_or bs 0 b
    → branch_trees (map branch_view bs) ≡ one_branch (boxed_view b.condition) (boxed_view b.value) (branch_trees (map branch_view (take (length bs - 1) (drop 1 bs))))
first_branch bs b h e =
    ap (λ xs. branch_trees (map branch_view xs)) (headed bs b h e)
    ∙ ap (λ (v : BranchView). one_branch v.condition v.value (branch_trees (map branch_view (take (length bs - 1) (drop 1 bs))))) (viewed b)
