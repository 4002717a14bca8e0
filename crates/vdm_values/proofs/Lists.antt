-- Two lists are equal where the parts of a tree that they make are.
use Rattle.std.proofs.Common.{◌≡◌, ℕ, Bool, IsTrue, ◌↔◌, List, [], ◌∷◌, length, refl, ap, sym, ◌∙◌, arith}
use Rattle.std.specs.declared.cmp.Ordering.{Ordering}
use Rattle.std.specs.declared.cmp.Ordering.TheVariants.{Less, Equal, Greater}
use Rattle.std.specs.Ordering.{nat_cmp, ordering_then}
use Rattle.abstract_syntax.specs.ValueOrder.{count_of, count_of_pairs, by_length}
use Rattle.abstract_syntax.specs.Values.{ValueTree, value_trees, pair_trees, value_list, pair_list, value_list-value_trees, pair_list-pair_trees}

pub value_trees-one_to_one : (xs ys : List ValueTree) → value_trees xs ≡ value_trees ys → xs ≡ ys
value_trees-one_to_one xs ys e = sym (value_list-value_trees xs) ∙ ap value_list e ∙ value_list-value_trees ys

pub pair_trees-one_to_one : (xs ys : List (ValueTree × ValueTree)) → pair_trees xs ≡ pair_trees ys → xs ≡ ys
pair_trees-one_to_one xs ys e = sym (pair_list-pair_trees xs) ∙ ap pair_list e ∙ pair_list-pair_trees ys

-- a test of two lists is one of their trees
pub same_values : (r : Bool) (xs ys vs ws : List ValueTree) → vs ≡ xs → ws ≡ ys → (IsTrue r ↔ vs ≡ ws) → (IsTrue r ↔ value_trees xs ≡ value_trees ys)
same_values r xs ys vs ws p q h = (λ t. ap value_trees (sym p ∙ h.0 t ∙ q), λ e. h.1 (p ∙ value_trees-one_to_one xs ys e ∙ sym q))

pub same_pairs : (r : Bool) (xs ys vs ws : List (ValueTree × ValueTree)) → vs ≡ xs → ws ≡ ys → (IsTrue r ↔ vs ≡ ws) → (IsTrue r ↔ pair_trees xs ≡ pair_trees ys)
same_pairs r xs ys vs ws p q h = (λ t. ap pair_trees (sym p ∙ h.0 t ∙ q), λ e. h.1 (p ∙ pair_trees-one_to_one xs ys e ∙ sym q))

pub count_of-value_trees : (vs : List ValueTree) → count_of (value_trees vs) ≡ length vs
count_of-value_trees [] = refl
count_of-value_trees (v ∷ vs) = omega (arith, count_of-value_trees vs)

pub count_of_pairs-pair_trees : (ps : List (ValueTree × ValueTree)) → count_of_pairs (pair_trees ps) ≡ length ps
count_of_pairs-pair_trees [] = refl
count_of_pairs-pair_trees (p ∷ ps) = omega (arith, count_of_pairs-pair_trees ps)

then_apart : (r s : Ordering) → (r ≡ Equal → ⊥) → ordering_then r s ≡ r
then_apart Less s f = refl
then_apart Equal s f = absurd (f refl)
then_apart Greater s f = refl

-- what a comparison of two lengths says of an order by length
pub by_level_length : (m n j k : ℕ) (r o : Ordering) → j ≡ m → k ≡ n → r ≡ nat_cmp m n → r ≡ Equal → by_length j k o ≡ o
by_level_length m n j k r o p q e h = ap (λ s. ordering_then s o) ((λ i. nat_cmp (p i) (q i)) ∙ sym e ∙ h)

pub by_other_length : (m n j k : ℕ) (r o : Ordering) → j ≡ m → k ≡ n → r ≡ nat_cmp m n → (r ≡ Equal → ⊥) → by_length j k o ≡ r
by_other_length m n j k r o p q e f = ap (λ s. ordering_then s o) ((λ i. nat_cmp (p i) (q i)) ∙ sym e) ∙ then_apart r o f
