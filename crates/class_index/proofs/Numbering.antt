-- The numbers of classes: what a map has, and what the meaning says.
use Rattle.std.proofs.Common.{◌≡◌, ℕ, suc, ◌+◌, Bool, true, false, cond, not, nat_eq, nat_lt, List, [], ◌∷◌, length, Some, None, refl, ap, sym, ◌∙◌, arith}
use Rattle.std.proofs.lemmas.Bool.Decides.{nat_tests}
use Rattle.std.specs.List.{position, position_or_len}
use Rattle.abstract_syntax.specs.Classes.{ClassTree}
use Rattle.class_meaning.specs.Members.{or_else}
use Rattle.class_index.specs.Numbers.{number_from}

same_from : (k : ℕ) → k ≡ k + 0
same_from k = omega arith

some_within : (n : ℕ) → nat_lt 0 (suc n) ≡ true
some_within n = grind (arith, nat_tests)

one_more : (a b k : ℕ) → cond (nat_lt a b) (Some (k + 1 + a)) None ≡ cond (nat_lt (1 + a) (suc b)) (Some (k + (1 + a))) None
one_more a b k =
    let place : k + 1 + a ≡ k + (1 + a) = omega arith in
    let test : nat_lt a b ≡ nat_lt (1 + a) (suc b) = grind (arith, nat_tests) in
    ap (λ (n : ℕ). cond (nat_lt a b) (Some n) None) place ∙ ap (λ (t : Bool). cond t (Some (k + (1 + a))) None) test

module _ (n : ℕ) where
  abbrev place_in : List ClassTree → ℕ
  place_in classes = position_or_len (λ (class : ClassTree). nat_eq n class.name.0) classes

  from_is : (k : ℕ) (classes : List ClassTree)
      → number_from n k classes ≡ cond (nat_lt (place_in classes) (length classes)) (Some (k + place_in classes)) None
  from_is k [] = refl
  from_is k (class ∷ classes) = by (nat_eq n class.name.0) (from_is (k + 1) classes)
    where
      by : (b : Bool)
          → number_from n (k + 1) classes ≡ cond (nat_lt (place_in classes) (length classes)) (Some (k + 1 + place_in classes)) None
          → or_else (cond b (Some k) None) (number_from n (k + 1) classes)
          ≡ cond (nat_lt (cond (not b) (1 + place_in classes) 0) (suc (length classes))) (Some (k + cond (not b) (1 + place_in classes) 0)) None
      by true rest = ap Some (same_from k) ∙ ap (λ (t : Bool). cond t (Some (k + 0)) None) (sym (some_within (length classes)))
      by false rest = rest ∙ one_more (place_in classes) (length classes) k

-- what is found from the first class on is the first class of the name
pub number_is : (n : ℕ) (classes : List ClassTree) → number_from n 0 classes ≡ position (λ (class : ClassTree). nat_eq n class.name.0) classes
number_is n classes =
    let none : 0 + place_in n classes ≡ place_in n classes = omega arith in
    from_is n 0 classes ∙ ap (λ (k : ℕ). cond (nat_lt (place_in n classes) (length classes)) (Some k) None) none
