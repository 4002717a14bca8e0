-- What a text is in a table, row by row.
use Rattle.std.proofs.Common.{◌≡◌, ℕ, ◌+◌, ◌<◌, ◌≤◌, Bool, true, false, cond, List, [], ◌∷◌, ◌++◌, length, get_or, map, drop, Some, None, refl, ap, ◌∙◌}
use Rattle.std.proofs.lemmas.List.{drop_more, drop_all}
use Rattle.vdm_lexer.specs.declared.written.WrittenKind.{WrittenKind}
use Rattle.vdm_lexer.specs.Pieces.{is_text}
use Rattle.vdm_lexer.specs.Written.{Row, kind_in}

module _ {X : Type 0} (text_of : X → List ℕ) (kind_of : X → WrittenKind) (text : List ℕ) (rows : List X) (i : ℕ) where
  module _ (d : X) (short : i < length rows) where
    kind-step : kind_in text (map (λ row. (text_of row, kind_of row)) (drop i rows)) ≡ cond (is_text text (text_of (get_or rows i d))) (Some (kind_of (get_or rows i d))) (kind_in text (map (λ row. (text_of row, kind_of row)) (drop (i + 1) rows)))
    unfolding kind_in
    kind-step = ap (λ (rest : List X). kind_in text (map (λ row. (text_of row, kind_of row)) rest)) (drop_more rows i d short)

    pub kind-here : is_text text (text_of (get_or rows i d)) ≡ true → kind_in text (map (λ row. (text_of row, kind_of row)) (drop i rows)) ≡ Some (kind_of (get_or rows i d))
    kind-here h = kind-step ∙ ap (λ (b : Bool). cond b (Some (kind_of (get_or rows i d))) (kind_in text (map (λ row. (text_of row, kind_of row)) (drop (i + 1) rows)))) h

    pub kind-on : is_text text (text_of (get_or rows i d)) ≡ false → kind_in text (map (λ row. (text_of row, kind_of row)) (drop i rows)) ≡ kind_in text (map (λ row. (text_of row, kind_of row)) (drop (i + 1) rows))
    kind-on h = kind-step ∙ ap (λ (b : Bool). cond b (Some (kind_of (get_or rows i d))) (kind_in text (map (λ row. (text_of row, kind_of row)) (drop (i + 1) rows)))) h

  pub kind-end : length rows ≤ i → kind_in text (map (λ row. (text_of row, kind_of row)) (drop i rows)) ≡ None
  unfolding kind_in
  kind-end h = ap (λ (rest : List X). kind_in text (map (λ row. (text_of row, kind_of row)) rest)) (drop_all i rows h)

-- what stands in the first rows, or else in the others
pub kind-first : (text : List ℕ) (some others : List Row) (kind : WrittenKind) → kind_in text some ≡ Some kind → kind_in text (some ++ others) ≡ Some kind
unfolding kind_in
kind-first text [] others kind h = absurd (cc)
kind-first text (row ∷ rows) others kind h = by (is_text text row.0) h (kind-first text rows others kind)
  where
    by : (b : Bool) → cond b (Some row.1) (kind_in text rows) ≡ Some kind → (kind_in text rows ≡ Some kind → kind_in text (rows ++ others) ≡ Some kind) → cond b (Some row.1) (kind_in text (rows ++ others)) ≡ Some kind
    by true e next = e
    by false e next = next e

pub kind-second : (text : List ℕ) (some others : List Row) → kind_in text some ≡ None → kind_in text (some ++ others) ≡ kind_in text others
unfolding kind_in
kind-second text [] others h = refl
kind-second text (row ∷ rows) others h = by (is_text text row.0) h (kind-second text rows others)
  where
    by : (b : Bool) → cond b (Some row.1) (kind_in text rows) ≡ None → (kind_in text rows ≡ None → kind_in text (rows ++ others) ≡ kind_in text others) → cond b (Some row.1) (kind_in text (rows ++ others)) ≡ kind_in text others
    by true e next = absurd (cc)
    by false e next = next e
