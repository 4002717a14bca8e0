-- Texts of characters and escapes.
use Rattle.std.proofs.Common.{◌≡◌, ℕ, zero, suc, ◌+◌, ◌==◌, ◌&&◌, ◌≤◌, Bool, true, false, not, cond, List, [], ◌∷◌, ◌++◌, length, Option, Some, None, refl, ap, sym, subst, ◌∙◌, append_assoc, length-append, arith}
use Rattle.std.specs.List.{concat}
use Rattle.std.specs.Option.{is_some}
use Rattle.vdm_lexer.specs.Characters.{is_hexadecimal}
use Rattle.vdm_lexer.specs.Escapes.{escape_length}
use Rattle.vdm_lexer.specs.Quoted.{one_more, refused_behind, refused_in}
use Rattle.vdm_lexer.proofs.Scans.{plus, plus-zero}
use Rattle.lexeme_laws.specs.Longest.{Each, IsMadeOf}
use Rattle.lexeme_laws.specs.Literals.{IsEscape, IsUnit}
use Rattle.lexeme_laws.specs.Literals.IsEscape.{plain, two, four}
use Rattle.lexeme_laws.specs.Literals.IsUnit.{character, escape}
use Rattle.lexeme_laws.proofs.Begun.{same-if}
use Rattle.lexeme_laws.proofs.Escapes.{escape-read, escape-found}
use Rattle.lexeme_laws.proofs.Runs.{differs}

-- one step of the search for an escape that is refused

refused-character : (c : ℕ) (cs : List ℕ) → (c == 92) ≡ false → refused_in (c ∷ cs) ≡ one_more (refused_in cs)
refused-character c cs h = ap (λ (b : Bool). cond (b && not (is_some (escape_length cs))) (Some 0) (one_more (refused_behind b cs))) h

refused-digit : (c : ℕ) (cs : List ℕ) → is_hexadecimal c ≡ true → refused_in (c ∷ cs) ≡ one_more (refused_in cs)
refused-digit c cs h = refused-character c cs (differs is_hexadecimal c 92 h refl)

refused-escape : (c : ℕ) (cs : List ℕ) (k : ℕ) → escape_length (c ∷ cs) ≡ Some k → refused_in (92 ∷ c ∷ cs) ≡ one_more (one_more (refused_in cs))
refused-escape c cs k h = ap (λ (found : Option ℕ). cond (not (is_some found)) (Some 0) (one_more (one_more (refused_in cs)))) h

pub refused-here : (cs : List ℕ) → escape_length cs ≡ None → refused_in (92 ∷ cs) ≡ Some 0
refused-here cs h = ap (λ (found : Option ℕ). cond (not (is_some found)) (Some 0) (one_more (refused_behind true cs))) h

-- a unit is passed over

more-two : (found : Option ℕ) → one_more (one_more found) ≡ plus 2 found
more-two None = refl
more-two (Some n) = let e : (n + 1) + 1 ≡ n + 2 = omega arith in ap Some e

more-four : (found : Option ℕ) → one_more (one_more (one_more (one_more found))) ≡ plus 4 found
more-four None = refl
more-four (Some n) = let e : (((n + 1) + 1) + 1) + 1 ≡ n + 4 = omega arith in ap Some e

more-six : (found : Option ℕ) → one_more (one_more (one_more (one_more (one_more (one_more found))))) ≡ plus 6 found
more-six None = refl
more-six (Some n) = let e : (((((n + 1) + 1) + 1) + 1) + 1) + 1 ≡ n + 6 = omega arith in ap Some e

unit-escape : (piece rest : List ℕ) → IsEscape piece → refused_in (piece ++ rest) ≡ plus (length piece) (refused_in rest)
unit-escape piece rest (plain c is h) =
    let read = escape-read (92 ∷ c ∷ []) rest (plain c refl h) in
    subst (λ (p : List ℕ). refused_in (p ++ rest) ≡ plus (length p) (refused_in rest)) (sym is) (refused-escape c rest _ read ∙ more-two (refused_in rest))
unit-escape piece rest (two a b is all) =
    let read = escape-read (92 ∷ 120 ∷ a ∷ b ∷ []) rest (two a b refl all) in
    subst (λ (p : List ℕ). refused_in (p ++ rest) ≡ plus (length p) (refused_in rest)) (sym is)
    (refused-escape 120 (a ∷ b ∷ rest) _ read
    ∙ ap (λ (found : Option ℕ). one_more (one_more found)) (refused-digit a (b ∷ rest) all.0 ∙ ap one_more (refused-digit b rest all.1.0))
    ∙ more-four (refused_in rest))
unit-escape piece rest (four a b c d is all scalar) =
    let read = escape-read (92 ∷ 117 ∷ a ∷ b ∷ c ∷ d ∷ []) rest (four a b c d refl all scalar) in
    subst (λ (p : List ℕ). refused_in (p ++ rest) ≡ plus (length p) (refused_in rest)) (sym is)
    (refused-escape 117 (a ∷ b ∷ c ∷ d ∷ rest) _ read
    ∙ ap (λ (found : Option ℕ). one_more (one_more found))
    (refused-digit a (b ∷ c ∷ d ∷ rest) all.0
    ∙ ap one_more (refused-digit b (c ∷ d ∷ rest) all.1.0
    ∙ ap one_more (refused-digit c (d ∷ rest) all.1.1.0
    ∙ ap one_more (refused-digit d rest all.1.1.1.0))))
    ∙ more-six (refused_in rest))

unit-one : (piece rest : List ℕ) → IsUnit piece → refused_in (piece ++ rest) ≡ plus (length piece) (refused_in rest)
unit-one piece rest (character c is h) = subst (λ (p : List ℕ). refused_in (p ++ rest) ≡ plus (length p) (refused_in rest)) (sym is) (refused-character c rest h)
unit-one piece rest (escape e) = unit-escape piece rest e

plus-plus : (found : Option ℕ) (a b c : ℕ) → c ≡ a + b → plus a (plus b found) ≡ plus c found
plus-plus None a b c e = refl
plus-plus (Some n) a b c e = let f : (n + b) + a ≡ n + c = omega arith in ap Some f

units-all : (pieces : List (List ℕ)) (rest : List ℕ) → Each IsUnit pieces → refused_in (concat pieces ++ rest) ≡ plus (length (concat pieces)) (refused_in rest)
units-all [] rest each = sym (plus-zero (refused_in rest))
units-all (piece ∷ pieces) rest each =
    ap refused_in (append_assoc piece (concat pieces) rest)
    ∙ unit-one piece (concat pieces ++ rest) each.0
    ∙ ap (plus (length piece)) (units-all pieces rest each.1)
    ∙ plus-plus (refused_in rest) (length piece) (length (concat pieces)) (length (piece ++ concat pieces)) (length-append piece (concat pieces))

pub units-read : (text rest : List ℕ) → IsMadeOf IsUnit text → refused_in (text ++ rest) ≡ plus (length text) (refused_in rest)
units-read text rest made = subst (λ (t : List ℕ). refused_in (t ++ rest) ≡ plus (length t) (refused_in rest)) (sym made.is) (units-all made.pieces rest made.each)

-- each text is units up to its end or up to a `\` that begins no escape

pub data Ends (rest : List ℕ) : Type 0 where
  whole : rest ≡ [] → Ends rest
  refused : (behind : List ℕ) → rest ≡ 92 ∷ behind → escape_length behind ≡ None → Ends rest

pub record IsSplit (text : List ℕ) : Type 0 where
  pub pieces : List (List ℕ)
  pub rest : List ℕ
  pub is : text ≡ concat pieces ++ rest
  pub each : Each IsUnit pieces
  pub ends : Ends rest

split-on : (piece others : List ℕ) → IsUnit piece → IsSplit others → IsSplit (piece ++ others)
split-on piece others unit rest = record {
  pieces = piece ∷ rest.pieces;
  rest = rest.rest;
  is = ap (λ (t : List ℕ). piece ++ t) rest.is ∙ sym (append_assoc piece (concat rest.pieces) rest.rest);
  each = (unit, rest.each);
  ends = rest.ends;
}

split-within : (n : ℕ) (text : List ℕ) → length text ≤ n → IsSplit text
split-within n [] h = record { pieces = []; rest = []; is = refl; each = tt; ends = whole refl }
split-within zero (c ∷ cs) h = absurd (omega arith)
split-within (suc n) (c ∷ cs) h = by (c == 92) (escape_length cs) refl refl (split-within n)
  where
    by : (b : Bool) (found : Option ℕ) → (c == 92) ≡ b → escape_length cs ≡ found → ((text : List ℕ) → length text ≤ n → IsSplit text) → IsSplit (c ∷ cs)
    by false found e f next = split-on (c ∷ []) cs (character c refl e) (next cs (omega arith))
    by true None e f next = record { pieces = []; rest = c ∷ cs; is = refl; each = tt; ends = refused cs (ap (λ (x : ℕ). x ∷ cs) (same-if c 92 e)) f }
    by true (Some k) e f next =
        let escaped = escape-found cs k f in
        let is : c ∷ cs ≡ escaped.escape ++ escaped.others = ap (λ (x : ℕ). x ∷ cs) (same-if c 92 e) ∙ escaped.is in
        let longer : length (c ∷ cs) ≡ length (escaped.escape ++ escaped.others) = ap length is in
        let sum = length-append escaped.escape escaped.others in
        let some = escaped.long in
        subst IsSplit (sym is) (split-on escaped.escape escaped.others (escape escaped.one) (next escaped.others (omega arith)))

pub split : (text : List ℕ) → IsSplit text
split text = split-within (length text) text (omega arith)
