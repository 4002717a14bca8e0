-- The newest of a list, which is searched from its end.
use Rattle.std.proofs.Common.{◌≡◌, ℕ, ◌+◌, ◌<◌, ◌≤◌, Bool, true, false, cond, List, [], ◌∷◌, Some, length, take, get_or, reverse, ap, sym, ◌∙◌}
use Rattle.std.specs.List.{find}
use Rattle.std.proofs.lemmas.List.{take_more, take_all, reverse-append}

module _ {A : Type 0} (p : A → Bool) (xs : List A) where
  -- the search among the first so many, and one more
  one_more : (i : ℕ) (x : A) → i < length xs → x ≡ get_or xs i x →
      find p (reverse (take (i + 1) xs)) ≡ cond (p x) (Some x) (find p (reverse (take i xs)))
  one_more i x h is =
      ap (λ ys. find p (reverse ys)) (take_more xs i x h) ∙
      ap (find p) (reverse-append (take i xs) (get_or xs i x ∷ [])) ∙
      ap (λ y. cond (p y) (Some y) (find p (reverse (take i xs)))) (sym is)

  pub newest_found : (i : ℕ) (x : A) → i < length xs → x ≡ get_or xs i x → p x ≡ true → find p (reverse (take (i + 1) xs)) ≡ Some x
  newest_found i x h is passes = one_more i x h is ∙ ap (λ b. cond b (Some x) (find p (reverse (take i xs)))) passes

  pub newest_before : (i : ℕ) (x : A) → i < length xs → x ≡ get_or xs i x → p x ≡ false →
      find p (reverse (take (i + 1) xs)) ≡ find p (reverse (take i xs))
  newest_before i x h is fails = one_more i x h is ∙ ap (λ b. cond b (Some x) (find p (reverse (take i xs)))) fails

  pub all_searched : (n : ℕ) → length xs ≤ n → find p (reverse (take n xs)) ≡ find p (reverse xs)
  all_searched n h = ap (λ ys. find p (reverse ys)) (take_all n xs h)
