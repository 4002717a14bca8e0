-- A text is found in rows that rise by halving.
use Rattle.std.proofs.Common.{◌≡◌, ℕ, zero, suc, ◌<◌, ◌≤◌, ◌&&◌, Bool, true, false, cond, List, [], ◌∷◌, ◌++◌, length, get_or, map, Some, None, Err, bytes_eq, is_eq, is_lt, nat_cmp, Ordering, Less, Equal, Greater, refl, ap, sym, ◌∙◌, arith}
use Rattle.std.specs.Cmp.Lexicographic.{slice_cmp, nat_list_cmp_total, texts_ties}
use Rattle.std.specs.List.Sorted.{IsSearchInRange, IsBinarySearchResult, IsNonDecreasingBy}
use Rattle.std.specs.Ordering.{ordering_index, ordering_reverse}
use Rattle.std.proofs.Common.{inl, inr}
use Rattle.std.proofs.lemmas.Bool.{cases_lt}
use Rattle.grammar_words.specs.declared.word.Word.{Word}
use Rattle.word_reader.specs.Written.{Row, word_in, are_rising}

abbrev order : List ℕ → List ℕ → Ordering
order = slice_cmp nat_cmp

both : (a b : Bool) → (a && b) ≡ true → (a ≡ true) × (b ≡ true)
both true b h = (refl, h)
both false b h = absurd (cc)

less-is : (o : Ordering) → is_lt o ≡ true → o ≡ Less
less-is Less h = refl
less-is Equal h = absurd (cc)
less-is Greater h = absurd (cc)

-- texts that the order does not tell apart are the same, and others are not
same-by_order : (text other : List ℕ) → order other text ≡ Equal → bytes_eq text other ≡ true
same-by_order text other h = texts_ties text other ∙ ap is_eq (nat_list_cmp_total.antisymm text other ∙ ap ordering_reverse h)

other-by_order : (text other : List ℕ) (o : Ordering) → order other text ≡ o → (o ≡ Equal → ⊥) → bytes_eq text other ≡ false
other-by_order text other o is n = texts_ties text other ∙ ap is_eq (nat_list_cmp_total.antisymm text other ∙ ap ordering_reverse is) ∙ by o n
  where
    by : (o : Ordering) → (o ≡ Equal → ⊥) → is_eq (ordering_reverse o) ≡ false
    by Less n = refl
    by Equal n = absurd (n refl)
    by Greater n = refl

-- what stands before a text that is before or at another stands before that
ranks-rise : (a b text : List ℕ) → order a b ≡ Less → ordering_index (order a text) ≤ ordering_index (order b text)
ranks-rise a b text below = by (order b text) refl
  where
    before : order b text ≡ Equal → order a text ≡ Less
    before at =
        let turned : order b a ≡ Greater = nat_list_cmp_total.antisymm b a ∙ ap ordering_reverse below in
        let far : order text a ≡ Greater = sym (nat_list_cmp_total.congr b text a at) ∙ turned in
        nat_list_cmp_total.antisymm a text ∙ ap ordering_reverse far

    least : (o : Ordering) → o ≡ Less → (p : Ordering) → ordering_index o ≤ ordering_index p
    least o h p = let e : ordering_index o ≡ 0 = ap ordering_index h in omega arith

    most : (o : Ordering) → ordering_index o ≤ 2
    most Less = omega arith
    most Equal = omega arith
    most Greater = omega arith

    by : (o : Ordering) → order b text ≡ o → ordering_index (order a text) ≤ ordering_index o
    by Less e = least _ (nat_list_cmp_total.trans a b text below e) Less
    by Equal e = least _ (before e) Equal
    by Greater e = most (order a text)

module _ {X : Type 0} (text_of : X → List ℕ) (word_of : X → Word) where
  -- a text is before those of all rows
  abbrev IsBefore : List ℕ → List X → Type 0
  IsBefore text [] = Unit {0}
  IsBefore text (row ∷ rows) = (order text (text_of row) ≡ Less) × IsBefore text rows

  abbrev Rise : List X → Type 0
  Rise [] = Unit {0}
  Rise (row ∷ rows) = IsBefore (text_of row) rows × Rise rows

  before-chain : (text other : List ℕ) (rows : List X) → order text other ≡ Less → IsBefore other rows → IsBefore text rows
  before-chain text other [] below h = tt
  before-chain text other (row ∷ rows) below h = (nat_list_cmp_total.trans text other (text_of row) below h.0, before-chain text other rows below h.1)

  pub rise-from_test : (rows : List X) → are_rising (map (λ row. (text_of row, word_of row)) rows) ≡ true → Rise rows
  rise-from_test [] h = tt
  rise-from_test (row ∷ []) h = (tt, tt)
  rise-from_test (row ∷ other ∷ rows) h =
      let parts = both _ _ h in
      let rest = rise-from_test (other ∷ rows) parts.1 in
      let below = less-is _ parts.0 in
      ((below, before-chain (text_of row) (text_of other) rows below rest.0), rest)

  before-at : (text : List ℕ) (rows : List X) (i : ℕ) (d : X) → IsBefore text rows → i < length rows → order text (text_of (get_or rows i d)) ≡ Less
  before-at text [] i d h short = absurd (omega arith)
  before-at text (row ∷ rows) zero d h short = h.0
  before-at text (row ∷ rows) (suc i) d h short = before-at text rows i d h.1 (omega arith)

  pub ranks-in_order : (text : List ℕ) (rows : List X) → Rise rows → IsNonDecreasingBy (λ row. ordering_index (order (text_of row) text)) rows
  ranks-in_order text [] h i j d le short = absurd (omega arith)
  ranks-in_order text (row ∷ rows) h zero zero d le short = omega arith
  ranks-in_order text (row ∷ rows) h zero (suc j) d le short = ranks-rise (text_of row) _ text (before-at (text_of row) rows j d h.0 (omega arith))
  ranks-in_order text (row ∷ rows) h (suc i) zero d le short = absurd (omega arith)
  ranks-in_order text (row ∷ rows) h (suc i) (suc j) d le short = ranks-in_order text rows h.1 i j d (omega arith) (omega arith)

  word-on : (text : List ℕ) (row : X) (rows : List X) → bytes_eq text (text_of row) ≡ false → word_in text (map (λ row. (text_of row, word_of row)) (row ∷ rows)) ≡ word_in text (map (λ row. (text_of row, word_of row)) rows)
  unfolding word_in
  word-on text row rows h = ap (λ (b : Bool). cond b (Some (word_of row)) (word_in text (map (λ row. (text_of row, word_of row)) rows))) h

  word-here : (text : List ℕ) (row : X) (rows : List X) → bytes_eq text (text_of row) ≡ true → word_in text (map (λ row. (text_of row, word_of row)) (row ∷ rows)) ≡ Some (word_of row)
  unfolding word_in
  word-here text row rows h = ap (λ (b : Bool). cond b (Some (word_of row)) (word_in text (map (λ row. (text_of row, word_of row)) rows))) h

  absent : (text : List ℕ) (rows : List X) → ((k : ℕ) (d : X) → k < length rows → order (text_of (get_or rows k d)) text ≡ Equal → ⊥) → word_in text (map (λ row. (text_of row, word_of row)) rows) ≡ None
  unfolding word_in
  absent text [] n = refl
  absent text (row ∷ rows) n =
      word-on text row rows (other-by_order text (text_of row) _ refl (n 0 row (omega arith)))
      ∙ absent text rows (λ k d short. n (suc k) d (omega arith))

  pub present : (text : List ℕ) (rows : List X) (i : ℕ) (d : X) → Rise rows → i < length rows → order (text_of (get_or rows i d)) text ≡ Equal → word_in text (map (λ row. (text_of row, word_of row)) rows) ≡ Some (word_of (get_or rows i d))
  present text [] i d h short at = absurd (omega arith)
  present text (row ∷ rows) zero d h short at = word-here text row rows (same-by_order text (text_of row) at)
  present text (row ∷ rows) (suc i) d h short at =
      let below = before-at (text_of row) rows i d h.0 (omega arith) in
      let first = before-equal (text_of row) (text_of (get_or rows i d)) text below at in
      word-on text row rows (other-by_order text (text_of row) Less first (λ e. absurd (cc e)))
      ∙ present text rows i d h.1 (omega arith) at
    where
      before-equal : (a b text : List ℕ) → order a b ≡ Less → order b text ≡ Equal → order a text ≡ Less
      before-equal a b text below at =
          let turned : order b a ≡ Greater = nat_list_cmp_total.antisymm b a ∙ ap ordering_reverse below in
          let far : order text a ≡ Greater = sym (nat_list_cmp_total.congr b text a at) ∙ turned in
          nat_list_cmp_total.antisymm a text ∙ ap ordering_reverse far

  -- where halving ends with none, no row has the text
  pub parted-absent : (text : List ℕ) (rows : List X) (i : ℕ) → Rise rows → IsSearchInRange (Err i) (length rows) → IsBinarySearchResult (λ row. order (text_of row) text) rows (Err i) → word_in text (map (λ row. (text_of row, word_of row)) rows) ≡ None
  parted-absent text rows i h within parted = absent text rows (λ k d short at.
      let sides = parted (ranks-in_order text rows h) in
      elim (cases_lt k i) [
        | inl low ↦ absurd (cc (sides.0 k d (omega arith) low, at))
        | inr high ↦ absurd (cc (sides.1 k d high short, at))
      ])

-- what stands in the first rows, or else in the others
pub word-first : (text : List ℕ) (some others : List Row) (word : Word) → word_in text some ≡ Some word → word_in text (some ++ others) ≡ Some word
unfolding word_in
word-first text [] others word h = absurd (cc)
word-first text (row ∷ rows) others word h = by (bytes_eq text row.0) h (word-first text rows others word)
  where
    by : (b : Bool) → cond b (Some row.1) (word_in text rows) ≡ Some word → (word_in text rows ≡ Some word → word_in text (rows ++ others) ≡ Some word) → cond b (Some row.1) (word_in text (rows ++ others)) ≡ Some word
    by true e next = e
    by false e next = next e

pub word-second : (text : List ℕ) (some others : List Row) → word_in text some ≡ None → word_in text (some ++ others) ≡ word_in text others
unfolding word_in
word-second text [] others h = refl
word-second text (row ∷ rows) others h = by (bytes_eq text row.0) h (word-second text rows others)
  where
    by : (b : Bool) → cond b (Some row.1) (word_in text rows) ≡ None → (word_in text rows ≡ None → word_in text (rows ++ others) ≡ word_in text others) → cond b (Some row.1) (word_in text (rows ++ others)) ≡ word_in text others
    by true e next = absurd (cc)
    by false e next = next e
