-- Where notes stand in a list that grows, and that their places rise.
use Rattle.std.proofs.Common.{◌≡◌, ℕ, zero, suc, ◌+◌, ◌<◌, List, [], ◌∷◌, ◌++◌, length, drop, sym, refl, ap, ◌∙◌, arith, Some, append_assoc}
use Rattle.std.proofs.lemmas.Option.{slice_get_within}
use Rattle.std.proofs.lemmas.List.Quantifiers.{all_pairs_push}
use Rattle.std.specs.Prelude.{slice_get}
use mathlib.Core.List.{IsPrefix, append-nil}
use Rattle.turn_lock.specs.Views.{Stand, AllBelow, IsRising}

module _ {E : Type 0} where
  pub get_longer : (xs ys : List E) (k : ℕ) (e : E) → slice_get xs k ≡ Some e → slice_get (xs ++ ys) k ≡ Some e
  get_longer [] ys k e at = absurd (cc)
  get_longer (x ∷ xs) ys zero e at = at
  get_longer (x ∷ xs) ys (suc k) e at = get_longer xs ys k e at

  pub get_last : (xs : List E) (e : E) (n : ℕ) → n ≡ length xs → slice_get (xs ++ e ∷ []) n ≡ Some e
  get_last [] e zero is = refl
  get_last [] e (suc n) is = absurd (omega arith)
  get_last (x ∷ xs) e zero is = absurd (omega arith)
  get_last (x ∷ xs) e (suc n) is = get_last xs e n (omega arith)

  pub stand_longer : (start : ℕ) (xs ys : List E) (own : List (ℕ × E)) → Stand start xs own → Stand start (xs ++ ys) own
  stand_longer start xs ys [] st = tt
  stand_longer start xs ys (p ∷ ps) st = (get_longer xs ys (start + p.0) p.1 st.0, stand_longer start xs ys ps st.1)

  pub stand_append : (start : ℕ) (list : List E) (own more : List (ℕ × E)) → Stand start list own → Stand start list more → Stand start list (own ++ more)
  stand_append start list [] more st so = so
  stand_append start list (p ∷ ps) more st so = (st.0, stand_append start list ps more st.1 so)

  pub stand_below : (start n : ℕ) (list : List E) (own : List (ℕ × E)) → length list ≡ start + n → Stand start list own → AllBelow n own
  stand_below start n list [] long st k d h = absurd (omega arith)
  stand_below start n list (p ∷ ps) long st zero d h = omega (arith, slice_get_within list (start + p.0) p.1 st.0)
  stand_below start n list (p ∷ ps) long st (suc k) d h = stand_below start n list ps long st.1 k d (omega arith)

  pub rising_push : (own : List (ℕ × E)) (k : ℕ) (e : E) → IsRising own → AllBelow k own → IsRising (own ++ (k, e) ∷ [])
  rising_push own k e rising low = all_pairs_push (λ p q. p.0 < q.0) own (k, e) rising low

  pub prefix_same : (xs ys : List E) → xs ≡ ys → IsPrefix xs ys
  prefix_same xs ys e = ([], append-nil xs ∙ e)

  pub prefix_longer : (xs ys more : List E) → IsPrefix xs ys → IsPrefix xs (ys ++ more)
  prefix_longer xs ys more p = (p.0 ++ more, sym (append_assoc xs p.0 more) ∙ ap (λ l. l ++ more) p.1)

  -- the entry by which a list is longer
  pub added_is : (before list : List E) (e : E) → list ≡ before ++ e ∷ [] → drop (length before) list ≡ e ∷ []
  added_is before list e is = ap (drop (length before)) is ∙ drop_all before (e ∷ [])
    where
      drop_all : (xs ys : List E) → drop (length xs) (xs ++ ys) ≡ ys
      drop_all [] ys = refl
      drop_all (x ∷ xs) ys = drop_all xs ys
