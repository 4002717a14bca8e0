-- Texts that are read one character after another.
use Rattle.std.proofs.Common.{◌≡◌, ℕ, zero, suc, ◌+◌, ◌<◌, ◌≤◌, ◌&&◌, ◌==◌, Bool, true, false, cond, not, List, [], ◌∷◌, length, get_or, drop, codes, Option, Some, None, refl, ap, sym, ◌∙◌, arith}
use Rattle.std.specs.Prelude.{option_map}
use Rattle.std.specs.Option.{is_some}
use Rattle.std.proofs.lemmas.List.{drop_more, drop_all}
use Rattle.std.proofs.lemmas.Bool.Decides.{nat_tests}
use Rattle.vdm_lexer.specs.Comments.{comment_close}
use Rattle.vdm_lexer.specs.Escapes.{escape_length}
use Rattle.vdm_lexer.specs.Pieces.{begins}
use Rattle.vdm_lexer.specs.Spots.{after, after_all, bytes_of}
use Rattle.vdm_kinds.specs.declared.place.Place.{Place}
use Rattle.std.specs.Char.{len_utf8}
use Rattle.vdm_lexer.specs.Quoted.{one_more, escapes, close_behind, refused_behind}

-- a number further on
abbrev pub plus : ℕ → Option ℕ → Option ℕ
plus i found = option_map (λ (n : ℕ). n + i) found

pub plus-zero : (found : Option ℕ) → plus 0 found ≡ found
plus-zero None = refl
plus-zero (Some n) = let e : n + 0 ≡ n = omega arith in ap Some e

pub plus-more : (found : Option ℕ) (i : ℕ) → plus i (one_more found) ≡ plus (i + 1) found
plus-more None i = refl
plus-more (Some n) i = let e : (n + 1) + i ≡ n + (i + 1) = omega arith in ap Some e

plus-here : (i : ℕ) → plus i (Some 0) ≡ Some i
plus-here i = let e : 0 + i ≡ i = omega arith in ap Some e

pub from-plus_zero : (all found : Option ℕ) → all ≡ plus 0 found → all ≡ found
from-plus_zero all found e = e ∙ plus-zero found

-- one step of each search
module _ (text : List ℕ) (i : ℕ) (short : i < length text) where
  pub close-here : (sign : ℕ) (escaped : Bool) → (not escaped && get_or text i 0 == sign) ≡ true → plus i (close_behind sign escaped (drop i text)) ≡ Some i
  close-here sign escaped h =
      ap (λ (t : List ℕ). plus i (close_behind sign escaped t)) (drop_more text i 0 short)
      ∙ ap (λ (b : Bool). plus i (cond b (Some 0) (one_more (close_behind sign (escapes escaped (get_or text i 0)) (drop (i + 1) text))))) h
      ∙ plus-here i

  pub close-on : (sign : ℕ) (escaped next : Bool) → (not escaped && get_or text i 0 == sign) ≡ false → next ≡ escapes escaped (get_or text i 0) → plus i (close_behind sign escaped (drop i text)) ≡ plus (i + 1) (close_behind sign next (drop (i + 1) text))
  close-on sign escaped next h is =
      ap (λ (t : List ℕ). plus i (close_behind sign escaped t)) (drop_more text i 0 short)
      ∙ ap (λ (b : Bool). plus i (cond b (Some 0) (one_more (close_behind sign (escapes escaped (get_or text i 0)) (drop (i + 1) text))))) h
      ∙ plus-more _ i
      ∙ ap (λ (b : Bool). plus (i + 1) (close_behind sign b (drop (i + 1) text))) (sym is)

  pub refused-here : (escaped next : Bool) → next ≡ escapes escaped (get_or text i 0) → (next && not (is_some (escape_length (drop (i + 1) text)))) ≡ true → plus i (refused_behind escaped (drop i text)) ≡ Some i
  refused-here escaped next is h =
      ap (λ (t : List ℕ). plus i (refused_behind escaped t)) (drop_more text i 0 short)
      ∙ ap (λ (b : Bool). plus i (cond (b && not (is_some (escape_length (drop (i + 1) text)))) (Some 0) (one_more (refused_behind b (drop (i + 1) text))))) (sym is)
      ∙ ap (λ (b : Bool). plus i (cond b (Some 0) (one_more (refused_behind next (drop (i + 1) text))))) h
      ∙ plus-here i

  pub refused-on : (escaped next : Bool) → next ≡ escapes escaped (get_or text i 0) → (next && not (is_some (escape_length (drop (i + 1) text)))) ≡ false → plus i (refused_behind escaped (drop i text)) ≡ plus (i + 1) (refused_behind next (drop (i + 1) text))
  refused-on escaped next is h =
      ap (λ (t : List ℕ). plus i (refused_behind escaped t)) (drop_more text i 0 short)
      ∙ ap (λ (b : Bool). plus i (cond (b && not (is_some (escape_length (drop (i + 1) text)))) (Some 0) (one_more (refused_behind b (drop (i + 1) text))))) (sym is)
      ∙ ap (λ (b : Bool). plus i (cond b (Some 0) (one_more (refused_behind next (drop (i + 1) text))))) h
      ∙ plus-more _ i

  pub comment-here : begins (drop i text) (codes "*/") ≡ true → plus i (comment_close (drop i text)) ≡ Some i
  comment-here h =
      ap (λ (t : List ℕ). plus i (comment_close t)) (drop_more text i 0 short)
      ∙ ap (λ (b : Bool). plus i (cond b (Some 0) (one_more (comment_close (drop (i + 1) text))))) (ap (λ (t : List ℕ). begins t (codes "*/")) (sym (drop_more text i 0 short)) ∙ h)
      ∙ plus-here i

  pub comment-on : begins (drop i text) (codes "*/") ≡ false → plus i (comment_close (drop i text)) ≡ plus (i + 1) (comment_close (drop (i + 1) text))
  comment-on h =
      ap (λ (t : List ℕ). plus i (comment_close t)) (drop_more text i 0 short)
      ∙ ap (λ (b : Bool). plus i (cond b (Some 0) (one_more (comment_close (drop (i + 1) text))))) (ap (λ (t : List ℕ). begins t (codes "*/")) (sym (drop_more text i 0 short)) ∙ h)
      ∙ plus-more _ i

-- one step of a comparison
pub begins-same : (text other : List ℕ) (i : ℕ) → i < length text → i < length other → get_or text i 0 ≡ get_or other i 0 → begins (drop i text) (drop i other) ≡ begins (drop (i + 1) text) (drop (i + 1) other)
unfolding begins
begins-same text other i h k e =
    ap (λ (t : List ℕ). begins t (drop i other)) (drop_more text i 0 h)
    ∙ ap (begins (get_or text i 0 ∷ drop (i + 1) text)) (drop_more other i 0 k)
    ∙ ap (λ (b : Bool). b && begins (drop (i + 1) text) (drop (i + 1) other)) (same-true _ _ e)
  where
    same-true : (a b : ℕ) → a ≡ b → (a == b) ≡ true
    same-true a b e = grind (arith, nat_tests)

pub begins-other : (text other : List ℕ) (i : ℕ) → i < length text → i < length other → (get_or text i 0 ≡ get_or other i 0 → ⊥) → begins (drop i text) (drop i other) ≡ false
unfolding begins
begins-other text other i h k n =
    ap (λ (t : List ℕ). begins t (drop i other)) (drop_more text i 0 h)
    ∙ ap (begins (get_or text i 0 ∷ drop (i + 1) text)) (drop_more other i 0 k)
    ∙ ap (λ (b : Bool). b && begins (drop (i + 1) text) (drop (i + 1) other)) (other-false _ _ n)
  where
    other-false : (a b : ℕ) → (a ≡ b → ⊥) → (a == b) ≡ false
    other-false a b n = grind (arith, nat_tests)

pub begins-short : (text other : List ℕ) (i : ℕ) → length text ≤ i → i < length other → begins (drop i text) (drop i other) ≡ false
unfolding begins
begins-short text other i h k =
    ap (λ (t : List ℕ). begins t (drop i other)) (drop_all i text h)
    ∙ ap (begins []) (drop_more other i 0 k)

pub begins-end : (text other : List ℕ) (i : ℕ) → length other ≤ i → begins (drop i text) (drop i other) ≡ true
unfolding begins
begins-end text other i h = ap (begins (drop i text)) (drop_all i other h) ∙ by (drop i text)
  where
    by : (t : List ℕ) → begins t [] ≡ true
    by t = refl

-- an element within a text, whatever stands for one past its end
pub same-item : (text : List ℕ) (i x : ℕ) → i < length text → x ≡ get_or text i x → x ≡ get_or text i 0
same-item [] i x short is = absurd (omega arith)
same-item (c ∷ text) zero x short is = is
same-item (c ∷ text) (suc i) x short is = same-item text i x (omega arith) is

-- one step of a sum of bytes, and of a place
pub bytes-step : (text : List ℕ) (i : ℕ) → i < length text → bytes_of (drop i text) ≡ len_utf8 (get_or text i 0) + bytes_of (drop (i + 1) text)
bytes-step text i short = ap bytes_of (drop_more text i 0 short)

pub after_all-step : (place : Place) (text : List ℕ) (i : ℕ) → i < length text → after_all place (drop i text) ≡ after_all (after place (get_or text i 0)) (drop (i + 1) text)
after_all-step place text i short = ap (after_all place) (drop_more text i 0 short)

-- the place after a character is at most one line or one column further
near : (place : Place) (feed : Bool) (line column : ℕ) → place.line ≤ line → place.column ≤ column → ((cond feed (record place { line = place.line + 1; column = 1 }) (record place { column = place.column + 1 })).line ≤ line + 1) × ((cond feed (record place { line = place.line + 1; column = 1 }) (record place { column = place.column + 1 })).column ≤ column + 1)
near place true line column h k = (omega arith, omega arith)
near place false line column h k = (omega arith, omega arith)

pub after-near : (place next : Place) (c line column : ℕ) → next ≡ after place c → place.line ≤ line → place.column ≤ column → (next.line ≤ line + 1) × (next.column ≤ column + 1)
after-near place next c line column is h k = rw is (near place (c == 10) line column h k)
