-- What a change of one index does to the choices behind.
use Rattle.std.proofs.Common.{◌≡◌, ℕ, zero, suc, ◌+◌, ◌<◌, ◌≤◌, List, [], ◌∷◌, ◌++◌, map, flat_map, length, take, drop, set, get_or, refl, ap, sym, ◌∙◌, subst, arith}
use Rattle.std.specs.List.{AllByRecursion as Each}
use Rattle.std.proofs.lemmas.List.{drop_more, drop_all, drop-set, take-set, get_or_read}
use Rattle.std.proofs.lemmas.Slice.Zip.{AllZip-long}
use Rattle.abstract_syntax.specs.Values.{ValueTree, nil}
use Rattle.bind_choices.specs.Choices.{choices_of, choice_at, choices_behind, AreIndices}
use Rattle.bind_choices.proofs.Starts.{from_first}

-- what a loop that goes from the last index to the first has done: those from p on begin anew, and the choices behind are those that the others leave
pub record Turning (lists : List (List ValueTree)) (old now : List ℕ) (p : ℕ) : Type 0 where
  pub stand : AreIndices lists now
  pub behind : choices_behind lists old ≡ choices_behind lists (take p now)
  pub first : Each (λ i. i ≡ 0) (drop p now)

-- there are as many lists as indices
pub as_many : (lists : List (List ValueTree)) (indices : List ℕ) → AreIndices lists indices → length indices ≡ length lists
as_many lists indices stand = AllZip-long (λ vs i. i < length vs) lists indices stand

pub stands_at : (lists : List (List ValueTree)) (indices : List ℕ) (p : ℕ) → AreIndices lists indices → p < length indices →
    get_or indices p 0 < length (get_or lists p [])
stands_at [] [] p stand h = absurd (omega arith)
stands_at [] (i ∷ indices) p stand h = absurd stand
stands_at (vs ∷ lists) [] p stand h = absurd stand
stands_at (vs ∷ lists) (i ∷ indices) zero stand h = stand.0
stands_at (vs ∷ lists) (i ∷ indices) (suc p) stand h = stands_at lists indices p stand.1 (omega arith)

-- the list that is read at p
pub list_read : (lists : List (List ValueTree)) (indices : List ℕ) (p : ℕ) (list : List ValueTree) → AreIndices lists indices → p < length indices →
    list ≡ get_or lists p list → list ≡ get_or lists p []
list_read lists indices p list stand h is = let e : p < length lists = omega (arith, as_many lists indices stand) in get_or_read lists p list e is []

pub index_read : (lists : List (List ValueTree)) (indices : List ℕ) (p : ℕ) (list : List ValueTree) → AreIndices lists indices → p < length indices →
    list ≡ get_or lists p list → get_or indices p 0 < length list
index_read lists indices p list stand h is =
    subst (λ vs. get_or indices p 0 < length vs) (sym (list_read lists indices p list stand h is)) (stands_at lists indices p stand h)

pub stand_set : (lists : List (List ValueTree)) (indices : List ℕ) (p i : ℕ) → AreIndices lists indices → i < length (get_or lists p []) →
    AreIndices lists (set indices p i)
stand_set [] [] p i stand h = tt
stand_set [] (j ∷ indices) p i stand h = absurd stand
stand_set (vs ∷ lists) [] p i stand h = absurd stand
stand_set (vs ∷ lists) (j ∷ indices) zero i stand h = (h, stand.1)
stand_set (vs ∷ lists) (j ∷ indices) (suc p) i stand h = (stand.0, stand_set lists indices p i stand.1 h)

-- an index at the end of its list leaves nothing behind
pub behind-last : (lists : List (List ValueTree)) (indices : List ℕ) (p : ℕ) → AreIndices lists indices → p < length indices →
    length (get_or lists p []) ≤ get_or indices p 0 + 1 → choices_behind lists (take (suc p) indices) ≡ choices_behind lists (take p indices)
behind-last [] [] p stand h end = absurd (omega arith)
behind-last [] (i ∷ indices) p stand h end = absurd stand
behind-last (vs ∷ lists) [] p stand h end = absurd stand
behind-last (vs ∷ lists) (i ∷ indices) zero stand h end =
    ap (λ ws. flat_map (λ v. map (λ choice. v ∷ choice) (choices_of lists)) ws) (drop_all (i + 1) vs end)
behind-last (vs ∷ lists) (i ∷ indices) (suc p) stand h end =
    ap (λ choices. map (λ choice. get_or vs i nil ∷ choice) choices ++ flat_map (λ v. map (λ choice. v ∷ choice) (choices_of lists)) (drop (i + 1) vs))
    (behind-last lists indices p stand.1 (omega arith) end)

-- an index goes on, where those behind it are the first
pub behind-next : (lists : List (List ValueTree)) (indices : List ℕ) (p : ℕ) → AreIndices lists indices → p < length indices →
    get_or indices p 0 + 1 < length (get_or lists p []) → Each (λ i. i ≡ 0) (drop (suc p) indices) →
    choices_behind lists (take (suc p) indices) ≡
    choice_at lists (set indices p (get_or indices p 0 + 1)) ∷ choices_behind lists (set indices p (get_or indices p 0 + 1))
behind-next [] [] p stand h more first = absurd (omega arith)
behind-next [] (i ∷ indices) p stand h more first = absurd stand
behind-next (vs ∷ lists) [] p stand h more first = absurd stand
behind-next (vs ∷ lists) (i ∷ indices) zero stand h more first =
    ap (λ ws. flat_map (λ v. map (λ choice. v ∷ choice) (choices_of lists)) ws) (drop_more vs (i + 1) nil more) ∙
    sym (ap (λ choices. map (λ choice. get_or vs (i + 1) nil ∷ choice) choices ++
    flat_map (λ v. map (λ choice. v ∷ choice) (choices_of lists)) (drop (i + 1 + 1) vs)) (from_first lists indices stand.1 first))
behind-next (vs ∷ lists) (i ∷ indices) (suc p) stand h more first =
    ap (λ choices. map (λ choice. get_or vs i nil ∷ choice) choices ++ flat_map (λ v. map (λ choice. v ∷ choice) (choices_of lists)) (drop (i + 1) vs))
    (behind-next lists indices p stand.1 (omega arith) more first)

module _ (lists : List (List ValueTree)) (old now : List ℕ) (place p : ℕ) (list : List ValueTree) where
  -- the index before goes back to the first value
  pub turned_back : Turning lists old now place → place ≡ suc p → place ≤ length now → list ≡ get_or lists p list → length list ≤ get_or now p 0 + 1 →
      Turning lists old (set now p 0) p
  turned_back t e h is end =
      let stands : get_or now p 0 < length (get_or lists p []) = stands_at lists now p t.stand (omega arith) in
      let last : length (get_or lists p []) ≤ get_or now p 0 + 1 =
      subst (λ vs. length vs ≤ get_or now p 0 + 1) (list_read lists now p list t.stand (omega arith) is) end in
      let next : place ≡ p + 1 = omega arith in
      record {
        stand = stand_set lists now p 0 t.stand (omega arith);
        behind = t.behind ∙ ap (λ n. choices_behind lists (take n now)) e ∙ behind-last lists now p t.stand (omega arith) last ∙
            ap (choices_behind lists) (sym (take-set now p 0));
        first = subst (Each (λ i. i ≡ 0)) (sym (drop-set now p 0 (omega arith))) (refl, subst (λ n. Each (λ i. i ≡ 0) (drop n now)) next t.first);
      }

  -- the index before goes on
  pub turned_on : Turning lists old now place → place ≡ suc p → place ≤ length now → list ≡ get_or lists p list → get_or now p 0 + 1 < length list →
      choices_behind lists old ≡ choice_at lists (set now p (get_or now p 0 + 1)) ∷ choices_behind lists (set now p (get_or now p 0 + 1))
  turned_on t e h is more =
      let next : get_or now p 0 + 1 < length (get_or lists p []) =
      subst (λ vs. get_or now p 0 + 1 < length vs) (list_read lists now p list t.stand (omega arith) is) more in
      t.behind ∙ ap (λ n. choices_behind lists (take n now)) e ∙
      behind-next lists now p t.stand (omega arith) next (subst (λ n. Each (λ i. i ≡ 0) (drop n now)) e t.first)

  pub stand_on : Turning lists old now place → place ≡ suc p → place ≤ length now → list ≡ get_or lists p list → get_or now p 0 + 1 < length list →
      AreIndices lists (set now p (get_or now p 0 + 1))
  stand_on t e h is more =
      stand_set lists now p (get_or now p 0 + 1) t.stand
      (subst (λ vs. get_or now p 0 + 1 < length vs) (list_read lists now p list t.stand (omega arith) is) more)
