-- Escapes in front of a text.
use Rattle.std.proofs.Common.{◌≡◌, ℕ, ◌+◌, ◌-◌, ◌==◌, ◌&&◌, Bool, true, false, cond, List, [], ◌∷◌, ◌++◌, length, take, drop, Option, Some, None, refl, ap, sym, subst, ◌∙◌, arith}
use Rattle.std.specs.List.{prefix_len}
use Rattle.std.proofs.lemmas.List.{length-take, take-append-drop, take_all}
use Rattle.std.proofs.lemmas.List.Sums.{prefix_len-le-length}
use Rattle.vdm_lexer.specs.Characters.{is_hexadecimal}
use Rattle.vdm_lexer.specs.Escapes.{escape_length, is_plain_escape, are_two, are_four, is_scalar}
use Rattle.lexeme_laws.specs.Longest.{AreAll, NoFront}
use Rattle.lexeme_laws.specs.Literals.{IsEscape}
use Rattle.lexeme_laws.specs.Literals.IsEscape.{plain, two, four}
use Rattle.lexeme_laws.proofs.Alphabet.{scalar-in, scalar-out}
use Rattle.lexeme_laws.proofs.Begun.{both, same-if}
use Rattle.lexeme_laws.proofs.Runs.{run-length, run-all}

-- an escape is read with its length

plain-read : (c : ℕ) (rest : List ℕ) → is_plain_escape c ≡ true → escape_length (c ∷ rest) ≡ Some 1
plain-read c rest h = ap (λ (b : Bool). cond b (Some 1) (cond (c == 120 && are_two rest) (Some 3) (cond (c == 117 && are_four rest && is_scalar (take 4 rest)) (Some 5) None))) h

two-read : (a b : ℕ) (rest : List ℕ) → AreAll is_hexadecimal (a ∷ b ∷ []) → escape_length (120 ∷ a ∷ b ∷ rest) ≡ Some 3
two-read a b rest all = ap (λ (n : ℕ). cond (n == 2) (Some 3) None) (run-length is_hexadecimal (a ∷ b ∷ []) [] all tt)

four-read : (a b c d : ℕ) (rest : List ℕ) → AreAll is_hexadecimal (a ∷ b ∷ c ∷ d ∷ []) → is_scalar (a ∷ b ∷ c ∷ d ∷ []) ≡ true → escape_length (117 ∷ a ∷ b ∷ c ∷ d ∷ rest) ≡ Some 5
four-read a b c d rest all scalar =
    ap (λ (n : ℕ). cond (n == 4 && is_scalar (a ∷ b ∷ c ∷ d ∷ [])) (Some 5) None) (run-length is_hexadecimal (a ∷ b ∷ c ∷ d ∷ []) [] all tt)
    ∙ ap (λ (b : Bool). cond b (Some 5) None) scalar

pub escape-read : (piece rest : List ℕ) → IsEscape piece → escape_length (drop 1 (piece ++ rest)) ≡ Some (length piece - 1)
escape-read piece rest (plain c is h) = subst (λ (p : List ℕ). escape_length (drop 1 (p ++ rest)) ≡ Some (length p - 1)) (sym is) (plain-read c rest h)
escape-read piece rest (two a b is all) = subst (λ (p : List ℕ). escape_length (drop 1 (p ++ rest)) ≡ Some (length p - 1)) (sym is) (two-read a b rest all)
escape-read piece rest (four a b c d is all scalar) = subst (λ (p : List ℕ). escape_length (drop 1 (p ++ rest)) ≡ Some (length p - 1)) (sym is) (four-read a b c d rest all (scalar-out (a ∷ b ∷ c ∷ d ∷ []) scalar))

-- what is read as an escape is one

pub record IsEscaped (text : List ℕ) (n : ℕ) : Type 0 where
  pub escape : List ℕ
  pub others : List ℕ
  pub is : 92 ∷ text ≡ escape ++ others
  pub one : IsEscape escape
  pub long : length escape ≡ n + 1

-- so many characters that pass
run-full : (test : ℕ → Bool) (k : ℕ) (text : List ℕ) → prefix_len test (take k text) ≡ k → AreAll test (take k text) × (length (take k text) ≡ k)
run-full test k text e =
    let most = prefix_len-le-length test (take k text) in
    let least = length-take k text in
    let long : length (take k text) ≡ k = omega arith in
    let all = run-all test (take k text) in
    let whole : take (prefix_len test (take k text)) (take k text) ≡ take k text = take_all _ (take k text) (omega arith) in
    (subst (AreAll test) whole all, long)

two-of : (piece : List ℕ) → length piece ≡ 2 → (a b : ℕ) × (piece ≡ a ∷ b ∷ [])
two-of [] e = absurd (omega arith)
two-of (a ∷ []) e = absurd (omega arith)
two-of (a ∷ b ∷ []) e = (a, b, refl)
two-of (a ∷ b ∷ c ∷ more) e = absurd (omega arith)

four-of : (piece : List ℕ) → length piece ≡ 4 → (a b c d : ℕ) × (piece ≡ a ∷ b ∷ c ∷ d ∷ [])
four-of [] e = absurd (omega arith)
four-of (a ∷ []) e = absurd (omega arith)
four-of (a ∷ b ∷ []) e = absurd (omega arith)
four-of (a ∷ b ∷ c ∷ []) e = absurd (omega arith)
four-of (a ∷ b ∷ c ∷ d ∷ []) e = (a, b, c, d, refl)
four-of (a ∷ b ∷ c ∷ d ∷ f ∷ more) e = absurd (omega arith)

two-found : (cs : List ℕ) (c n : ℕ) → c ≡ 120 → are_two cs ≡ true → n ≡ 3 → IsEscaped (c ∷ cs) n
two-found cs c n x h e =
    let full = run-full is_hexadecimal 2 cs (same-if _ 2 h) in
    let digits = two-of (take 2 cs) full.1 in
    record {
      escape = 92 ∷ 120 ∷ digits.0 ∷ digits.1 ∷ [];
      others = drop 2 cs;
      is = ap (λ (y : ℕ). 92 ∷ y ∷ cs) x ∙ ap (λ (t : List ℕ). 92 ∷ 120 ∷ t) (sym (take-append-drop 2 cs)) ∙ ap (λ (t : List ℕ). 92 ∷ 120 ∷ (t ++ drop 2 cs)) digits.2;
      one = two digits.0 digits.1 refl (subst (AreAll is_hexadecimal) digits.2 full.0);
      long = omega arith;
    }

four-found : (cs : List ℕ) (c n : ℕ) → c ≡ 117 → are_four cs ≡ true → is_scalar (take 4 cs) ≡ true → n ≡ 5 → IsEscaped (c ∷ cs) n
four-found cs c n x h k e =
    let full = run-full is_hexadecimal 4 cs (same-if _ 4 h) in
    let digits = four-of (take 4 cs) full.1 in
    record {
      escape = 92 ∷ 117 ∷ digits.0 ∷ digits.1 ∷ digits.2 ∷ digits.3 ∷ [];
      others = drop 4 cs;
      is = ap (λ (y : ℕ). 92 ∷ y ∷ cs) x ∙ ap (λ (t : List ℕ). 92 ∷ 117 ∷ t) (sym (take-append-drop 4 cs)) ∙ ap (λ (t : List ℕ). 92 ∷ 117 ∷ (t ++ drop 4 cs)) digits.4;
      one = four digits.0 digits.1 digits.2 digits.3 refl (subst (AreAll is_hexadecimal) digits.4 full.0) (scalar-in (digits.0 ∷ digits.1 ∷ digits.2 ∷ digits.3 ∷ []) (ap is_scalar (sym digits.4) ∙ k));
      long = omega arith;
    }

pub escape-found : (text : List ℕ) (n : ℕ) → escape_length text ≡ Some n → IsEscaped text n
escape-found [] n e = absurd (cc)
escape-found (c ∷ cs) n e = by (is_plain_escape c) (c == 120 && are_two cs) (c == 117 && are_four cs && is_scalar (take 4 cs)) refl refl refl e
  where
    by : (x y z : Bool) → is_plain_escape c ≡ x → (c == 120 && are_two cs) ≡ y → (c == 117 && are_four cs && is_scalar (take 4 cs)) ≡ z → cond x (Some 1) (cond y (Some 3) (cond z (Some 5) None)) ≡ Some n → IsEscaped (c ∷ cs) n
    by true y z h k l e =
        let one : n ≡ 1 = cc in
        record { escape = 92 ∷ c ∷ []; others = cs; is = refl; one = plain c refl h; long = omega arith }
    by false true z h k l e =
        let three : n ≡ 3 = cc in
        let parts = both (c == 120) (are_two cs) k in
        two-found cs c n (same-if c 120 parts.0) parts.1 three
    by false false true h k l e =
        let five : n ≡ 5 = cc in
        let parts = both (c == 117 && are_four cs) (is_scalar (take 4 cs)) l in
        let digits = both (c == 117) (are_four cs) parts.0 in
        four-found cs c n (same-if c 117 digits.0) digits.1 parts.1 five
    by false false false h k l e = absurd (cc)

pub no-escape : (text : List ℕ) → escape_length text ≡ None → NoFront IsEscape (92 ∷ text)
no-escape text e piece rest is one =
    let some : escape_length text ≡ Some (length piece - 1) = ap (λ (t : List ℕ). escape_length (drop 1 t)) is ∙ escape-read piece rest one in
    let wrong = sym e ∙ some in
    absurd (cc)

pub escape-none : (text : List ℕ) → NoFront IsEscape (92 ∷ text) → escape_length text ≡ None
escape-none text none = by (escape_length text) refl
  where
    by : (found : Option ℕ) → escape_length text ≡ found → found ≡ None
    by None e = refl
    by (Some n) e = let escaped = escape-found text n e in absurd (none escaped.escape escaped.others escaped.is escaped.one)
