-- The longest sign of a table, one after another.
use Rattle.std.proofs.Common.{◌≡◌, ℕ, ◌+◌, ◌<◌, ◌≤◌, max, List, [], ◌∷◌, length, get_or, map, drop, refl, ap, arith, nat_cmp, is_lt, Less, Equal, Greater, Bool, true, false, cond, nat_lt, nat_eq}
use Rattle.std.proofs.lemmas.Bool.Decides.{nat_tests}
use Rattle.std.specs.Ordering.{ord_max}
use Rattle.std.proofs.lemmas.List.{drop_more, drop_all}
use Rattle.vdm_lexer.specs.Signs.{longest, sign_length}

greatest : (a b : ℕ) → ord_max nat_cmp a b ≡ max a b
greatest a b = by (nat_lt b a) (nat_eq b a) refl
  where
    by : (less same : Bool) → nat_lt b a ≡ less → cond (is_lt (cond less Less (cond same Equal Greater))) a b ≡ max a b
    by true same e = let h : b < a = grind (arith, nat_tests) in omega arith
    by false true e = let h : a ≤ b = grind (arith, nat_tests) in omega arith
    by false false e = let h : a ≤ b = grind (arith, nat_tests) in omega arith

module _ {X : Type 0} (text_of : X → List ℕ) (all : ℕ) (text : List ℕ) (rows : List X) (i : ℕ) where
  pub longest-end : (found : ℕ) → length rows ≤ i → all ≡ max found (longest text (map text_of (drop i rows))) → found ≡ all
  unfolding longest
  longest-end found h e =
      let none = ap (λ (rest : List X). longest text (map text_of rest)) (drop_all i rows h) in
      let zero : longest text [] ≡ 0 = refl in
      omega arith

  pub longest-step : i < length rows → (found one next : ℕ) (d : X) → all ≡ max found (longest text (map text_of (drop i rows))) → one ≡ sign_length text (text_of (get_or rows i d)) → next ≡ ord_max nat_cmp found one → all ≡ max next (longest text (map text_of (drop (i + 1) rows)))
  unfolding longest
  longest-step short found one next d h is e =
      let step = ap (λ (rest : List X). longest text (map text_of rest)) (drop_more rows i d short) in
      let more : longest text (map text_of (get_or rows i d ∷ drop (i + 1) rows)) ≡ max (sign_length text (text_of (get_or rows i d))) (longest text (map text_of (drop (i + 1) rows))) = refl in
      let greater = greatest found one in
      omega arith
