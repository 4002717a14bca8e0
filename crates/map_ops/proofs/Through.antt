-- One map after another.
use Rattle.std.proofs.Common.{◌≡◌, ℕ, zero, suc, ◌+◌, ◌<◌, ◌≤◌, Bool, true, false, ◌&&◌, List, [], ◌∷◌, ◌++◌, map, length, get_or, take, refl, ap, sym, ◌∙◌, arith, add-one, Some, None}
use Rattle.std.specs.Prelude.{is_some}
use Rattle.std.specs.Option.{unwrap_or}
use Rattle.std.specs.declared.cmp.Ordering.TheVariants.{Less}
use Rattle.std.specs.List.{list_all, AllByRecursion}
use Rattle.std.specs.List.Sorted.{IsStrictlySortedBy}
use Rattle.abstract_syntax.specs.Values.{ValueTree, map_of, pair_trees}
use Rattle.abstract_syntax.specs.ValueSets.{Entry, key_order, map_value}
use Rattle.value_operators.specs.Members.{found}
use Rattle.value_operators.specs.Maps.{through, leads_on}
use Rattle.value_operators.proofs.Lists.{map_rising}
use Rattle.map_ops.proofs.Keys.{found_key}

module _ {Y : Type 0} (test : Y → Bool) where
  pub fails : (ys : List Y) (i : ℕ) (y : Y) → i < length ys → y ≡ get_or ys i y → test y ≡ false → list_all test ys ≡ false
  fails [] i y h e t = absurd (omega arith)
  fails (z ∷ zs) zero y h e t = ap (λ r. r && list_all test zs) (ap test (sym e) ∙ t)
  fails (z ∷ zs) (suc i) y h e t = by (test z) (fails zs i y (omega arith) e t)
    where
      by : (r : Bool) → list_all test zs ≡ false → r && list_all test zs ≡ false
      by true a = a
      by false a = refl

  passed_next : (ys : List Y) (i : ℕ) (y : Y) → i < length ys → list_all test (take i ys) ≡ true → test (get_or ys i y) ≡ true → list_all test (take (suc i) ys) ≡ true
  passed_next [] i y h a t = absurd (omega arith)
  passed_next (z ∷ zs) zero y h a t = ap (λ r. r && true) t
  passed_next (z ∷ zs) (suc i) y h a t = by (test z) a (passed_next zs i y (omega arith))
    where
      by : (r : Bool) → r && list_all test (take i zs) ≡ true → (list_all test (take i zs) ≡ true → test (get_or zs i y) ≡ true → list_all test (take (suc i) zs) ≡ true) → r && list_all test (take (suc i) zs) ≡ true
      by true b f = f b t
      by false b f = b

  pub passed_more : (ys : List Y) (i : ℕ) (y : Y) → i < length ys → y ≡ get_or ys i y → list_all test (take i ys) ≡ true → test y ≡ true → list_all test (take (i + 1) ys) ≡ true
  passed_more ys i y h e a t = ap (λ j. list_all test (take j ys)) (add-one i) ∙ passed_next ys i y h a (ap test (sym e) ∙ t)

mapped_next : {Y Z : Type 0} (f : Y → Z) (ys : List Y) (i : ℕ) (y : Y) → i < length ys → map f (take (suc i) ys) ≡ map f (take i ys) ++ f (get_or ys i y) ∷ []
mapped_next f [] i y h = absurd (omega arith)
mapped_next f (z ∷ zs) zero y h = refl
mapped_next f (z ∷ zs) (suc i) y h = ap (λ us. f z ∷ us) (mapped_next f zs i y (omega arith))

pub mapped_more : {Y Z : Type 0} (f : Y → Z) (ys : List Y) (i : ℕ) (y : Y) → i < length ys → y ≡ get_or ys i y → map f (take (i + 1) ys) ≡ map f (take i ys) ++ f y ∷ []
mapped_more f ys i y h e = ap (λ j. map f (take j ys)) (add-one i) ∙ mapped_next f ys i y h ∙ ap (λ z. map f (take i ys) ++ f z ∷ []) (sym e)

-- ---- the keys stay

above_still : (ps : List Entry) (q : Entry) (qs : List Entry) → AllByRecursion (λ r. key_order q r ≡ Less) qs → AllByRecursion (λ r. key_order (through ps q) r ≡ Less) (map (through ps) qs)
above_still ps q [] a = tt
above_still ps q (r ∷ rs) a = (a.0, above_still ps q rs a.1)

pub through_rise : (ps qs : List Entry) → IsStrictlySortedBy key_order qs → IsStrictlySortedBy key_order (map (through ps) qs)
unfolding IsStrictlySortedBy
through_rise ps [] s = tt
through_rise ps (q ∷ qs) s = (above_still ps q qs s.0, through_rise ps qs s.1)

pub through_is : (ps qs : List Entry) → IsStrictlySortedBy key_order qs → map_value (map (through ps) qs) ≡ map_of (pair_trees (map (through ps) qs))
through_is ps qs s = map_rising (map (through ps) qs) (through_rise ps qs s)

-- ---- one pair

pub leads : (ps : List Entry) (q : Entry) (v : ValueTree) → Some v ≡ found ps q.1 → leads_on ps q ≡ true
leads ps q v e = sym (found_key ps q.1) ∙ ap is_some (sym e)

pub leads_not : (ps : List Entry) (q : Entry) → None ≡ found ps q.1 → leads_on ps q ≡ false
leads_not ps q e = sym (found_key ps q.1) ∙ ap is_some (sym e)

pub led : (ps : List Entry) (q : Entry) (v : ValueTree) → Some v ≡ found ps q.1 → (q.0, v) ≡ through ps q
led ps q v e = ap (λ o. (q.0, unwrap_or o q.1)) e

pub whole_taken : {Y : Type 0} (ys : List Y) (i : ℕ) → length ys ≤ i → take i ys ≡ ys
whole_taken [] zero h = refl
whole_taken [] (suc i) h = refl
whole_taken (y ∷ ys) zero h = absurd (omega arith)
whole_taken (y ∷ ys) (suc i) h = ap (λ zs. y ∷ zs) (whole_taken ys i (omega arith))
