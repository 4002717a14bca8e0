-- A text that is read from left to right has its lexemes.
use Rattle.std.proofs.Common.{◌≡◌, ℕ, zero, suc, ◌+◌, ◌-◌, ◌*◌, ◌<◌, ◌≤◌, List, [], ◌∷◌, ◌++◌, length, get_or, drop, Ok, Err, refl, ap, sym, ◌∙◌, append_assoc, arith}
use Rattle.std.proofs.lemmas.List.{drop_more}
use Rattle.std.specs.Char.{len_utf8}
use Rattle.std.proofs.lemmas.Str.{len_utf8_bounds}
use Rattle.vdm_kinds.specs.declared.spec_fault.SpecFault.{SpecFault}
use Rattle.vdm_lexer.specs.declared.front.Front.{Front}
use Rattle.vdm_lexer.specs.declared.front.Front.TheVariants.{Space, Token, Fault}
use Rattle.vdm_lexer.specs.declared.lexeme.Lexeme.{Lexeme}
use Rattle.vdm_lexer.specs.declared.spot.Spot.{Spot}
use Rattle.vdm_lexer.specs.Fronts.{front_of, front_within}
use Rattle.vdm_lexer.specs.Lexed.{IsPushed, IsRefused}
use Rattle.vdm_lexer.specs.Lexemes.{Reading, before, front_before, lexemes_behind}
use Rattle.vdm_lexer.specs.Spots.{spot_after}
use Rattle.vdm_lexer.proofs.Scans.{after-near}

-- lexemes before others
abbrev pub all_before : List Lexeme → Reading → Reading
all_before found (Ok rest) = Ok (found ++ rest)
all_before found (Err fault) = Err fault

pub all_before-none : (rest : Reading) → all_before [] rest ≡ rest
all_before-none (Ok rest) = refl
all_before-none (Err fault) = refl

all_before-one : (found : List Lexeme) (lexeme : Lexeme) (rest : Reading) → all_before found (before lexeme rest) ≡ all_before (found ++ lexeme ∷ []) rest
all_before-one found lexeme (Ok rest) = ap Ok (sym (append_assoc found (lexeme ∷ []) rest))
all_before-one found lexeme (Err fault) = refl

behind-skipped : (good : ℕ) (spot : Spot) (skipped c : ℕ) (cs : List ℕ) → 0 < skipped → lexemes_behind good spot skipped (c ∷ cs) ≡ lexemes_behind (good - 1) (spot_after spot c) (skipped - 1) cs
behind-skipped good spot zero c cs h = absurd (omega arith)
behind-skipped good spot (suc n) c cs h = let e : n ≡ suc n - 1 = omega arith in ap (λ (m : ℕ). lexemes_behind (good - 1) (spot_after spot c) m cs) e

pushed-one : (front : Front) (spot : Spot) (text : List ℕ) (old new : List Lexeme) (more : ℕ) (behind : ℕ → Reading) → IsPushed front spot text old new more → all_before old (front_before front spot text behind) ≡ all_before new (behind more)
pushed-one (Space n) spot text old new more behind h = ap (all_before old) (ap behind (sym h.1)) ∙ ap (λ (found : List Lexeme). all_before found (behind more)) (sym h.0)
pushed-one (Token kind n) spot text old new more behind h =
    all_before-one old _ (behind n)
    ∙ ap (λ (found : List Lexeme). all_before found (behind n)) (sym h.0)
    ∙ ap (all_before new) (ap behind (sym h.1))
pushed-one (Fault kind n) spot text old new more behind h = absurd h

refused-one : (front : Front) (spot : Spot) (text : List ℕ) (found : List Lexeme) (fault : SpecFault) (behind : ℕ → Reading) → IsRefused front spot text fault → all_before found (front_before front spot text behind) ≡ Err fault
refused-one (Space n) spot text found fault behind h = absurd h
refused-one (Token kind n) spot text found fault behind h = absurd h
refused-one (Fault kind n) spot text found fault behind h = ap Err (sym h)

-- one step of the reading: a character of the last front, or the first of one
module _ (good : ℕ) (spot next : Spot) (text : List ℕ) (i : ℕ) (short : i < length text) (is : next ≡ spot_after spot (get_or text i 0)) where
  pub read-skipped : (found : List Lexeme) (skipped : ℕ) → 0 < skipped → all_before found (lexemes_behind good spot skipped (drop i text)) ≡ all_before found (lexemes_behind (good - 1) next (skipped - 1) (drop (i + 1) text))
  read-skipped found skipped some =
      ap (all_before found)
      (ap (lexemes_behind good spot skipped) (drop_more text i 0 short)
      ∙ behind-skipped good spot skipped (get_or text i 0) (drop (i + 1) text) some
      ∙ ap (λ (s : Spot). lexemes_behind (good - 1) s (skipped - 1) (drop (i + 1) text)) (sym is))

  front-same : lexemes_behind good spot 0 (drop i text) ≡ front_before (front_within good (front_of (drop i text))) spot (drop i text) (λ (more : ℕ). lexemes_behind (good - 1) next more (drop (i + 1) text))
  front-same =
      ap (lexemes_behind good spot 0) (drop_more text i 0 short)
      ∙ ap (λ (t : List ℕ). front_before (front_within good (front_of t)) spot t (λ (more : ℕ). lexemes_behind (good - 1) (spot_after spot (get_or text i 0)) more (drop (i + 1) text))) (sym (drop_more text i 0 short))
      ∙ ap (λ (s : Spot). front_before (front_within good (front_of (drop i text))) spot (drop i text) (λ (more : ℕ). lexemes_behind (good - 1) s more (drop (i + 1) text))) (sym is)

  pub read-front : (found newer : List Lexeme) (skipped more : ℕ) → skipped ≡ 0 → IsPushed (front_within good (front_of (drop i text))) spot (drop i text) found newer more → all_before found (lexemes_behind good spot skipped (drop i text)) ≡ all_before newer (lexemes_behind (good - 1) next more (drop (i + 1) text))
  read-front found newer skipped more none pushed =
      ap (λ (n : ℕ). all_before found (lexemes_behind good spot n (drop i text))) none
      ∙ ap (all_before found) front-same
      ∙ pushed-one (front_within good (front_of (drop i text))) spot (drop i text) found newer more _ pushed

-- a fault that the text begins with is that of the whole
pub read-fault : (good : ℕ) (spot : Spot) (text : List ℕ) (i : ℕ) → i < length text → (found : List Lexeme) (skipped : ℕ) (fault : SpecFault) → skipped ≡ 0 → IsRefused (front_within good (front_of (drop i text))) spot (drop i text) fault → all_before found (lexemes_behind good spot skipped (drop i text)) ≡ Err fault
read-fault good spot text i short found skipped fault none refused =
    ap (λ (n : ℕ). all_before found (lexemes_behind good spot n (drop i text))) none
    ∙ ap (all_before found) (front-same good spot (spot_after spot (get_or text i 0)) text i short refl)
    ∙ refused-one (front_within good (front_of (drop i text))) spot (drop i text) found fault _ refused

-- how far the spot after a character is from the first
pub record IsNear (spot : Spot) (i : ℕ) : Type 0 where
  pub offset : spot.offset ≤ 4 * i + 3
  pub line : spot.place.line ≤ i + 1
  pub column : spot.place.column ≤ i + 1

pub spot-near : (spot next : Spot) (c i : ℕ) → next ≡ spot_after spot c → IsNear spot i → IsNear next (i + 1)
spot-near spot next c i is near =
    let wide = (len_utf8_bounds c).1 in
    let offset : next.offset ≡ spot.offset + len_utf8 c = ap (λ (s : Spot). s.offset) is in
    let close = after-near spot.place next.place c (i + 1) (i + 1) (ap (λ (s : Spot). s.place) is) near.line near.column in
    let was = near.offset in
    record { offset = omega arith; line = close.0; column = close.1 }
