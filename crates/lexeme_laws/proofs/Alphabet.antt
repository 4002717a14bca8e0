-- The characters of the relation are those of the reading.
use Rattle.std.proofs.Common.{◌≡◌, ℕ, ◌<◌, ◌≤◌, ◌==◌, ◌&&◌, ◌||◌, ◌⊎◌, inl, inr, Bool, true, false, nat_lt, List, [], ◌∷◌, refl, ap, sym, subst, ◌∙◌, arith}
use Rattle.std.proofs.lemmas.Bool.Decides.{nat_tests}
use Rattle.std.specs.Str.Parse.{digits_value}
use Rattle.vdm_lexer.specs.Characters.{is_decimal, is_letter, is_of_word}
use Rattle.vdm_lexer.specs.Escapes.{is_scalar}
use Rattle.vdm_lexer.specs.Numerals.{is_fraction, is_signed_digit, is_exponent}
use Rattle.vdm_lexer.specs.Pieces.{first}
use Rattle.vdm_lexer.proofs.Unicode.{letter-unicode, of_word-unicode}
use Rattle.lexeme_laws.specs.Alphabet.{begins_word, is_in_word}
use Rattle.lexeme_laws.specs.Literals.{IsScalar}
use Rattle.lexeme_laws.specs.Longest.{AreAll}
use Rattle.lexeme_laws.specs.Numerals.{IsE, IsPlusOrMinus, GoesOn}
use Rattle.lexeme_laws.proofs.Begun.{both, same-if, if-same}

pub letter-in : (c : ℕ) → is_letter c ≡ true → begins_word c ≡ true
letter-in c h = sym (letter-unicode c) ∙ h

pub letter-out : (c : ℕ) → begins_word c ≡ true → is_letter c ≡ true
letter-out c h = letter-unicode c ∙ h

pub no-letter-in : (c : ℕ) → is_letter c ≡ false → begins_word c ≡ false
no-letter-in c h = sym (letter-unicode c) ∙ h

pub no-letter-out : (c : ℕ) → begins_word c ≡ false → is_letter c ≡ false
no-letter-out c h = letter-unicode c ∙ h

pub word-in : (cs : List ℕ) → AreAll is_of_word cs → AreAll is_in_word cs
word-in [] h = tt
word-in (c ∷ cs) h = (sym (of_word-unicode c) ∙ h.0, word-in cs h.1)

pub word-out : (cs : List ℕ) → AreAll is_in_word cs → AreAll is_of_word cs
word-out [] h = tt
word-out (c ∷ cs) h = (of_word-unicode c ∙ h.0, word-out cs h.1)

-- numbers

pub less-if : (a n : ℕ) → nat_lt a n ≡ true → a < n
less-if a n h = grind (arith, nat_tests)

pub if-less : (a n : ℕ) → a < n → nat_lt a n ≡ true
if-less a n h = grind (arith, nat_tests)

pub most-if : (a n : ℕ) → nat_lt a n ≡ false → n ≤ a
most-if a n h = grind (arith, nat_tests)

pub if-most : (a n : ℕ) → n ≤ a → nat_lt a n ≡ false
if-most a n h = grind (arith, nat_tests)

either : (a b : Bool) → (a || b) ≡ true → (a ≡ true) ⊎ (b ≡ true)
either true b h = inl refl
either false b h = inr h

or-true : (b : Bool) → (b || true) ≡ true
or-true true = refl
or-true false = refl

scalar-number : (n : ℕ) → (nat_lt n 0xd800 || nat_lt 0xdfff n) ≡ true → IsScalar n
scalar-number n h = by (either (nat_lt n 0xd800) (nat_lt 0xdfff n) h)
  where
    by : (nat_lt n 0xd800 ≡ true) ⊎ (nat_lt 0xdfff n ≡ true) → IsScalar n
    by (inl e) = inl (less-if n 0xd800 e)
    by (inr e) = inr (less-if 0xdfff n e)

number-scalar : (n : ℕ) → IsScalar n → (nat_lt n 0xd800 || nat_lt 0xdfff n) ≡ true
number-scalar n (inl h) = ap (λ (b : Bool). b || nat_lt 0xdfff n) (if-less n 0xd800 h)
number-scalar n (inr h) = ap (λ (b : Bool). nat_lt n 0xd800 || b) (if-less 0xdfff n h) ∙ or-true (nat_lt n 0xd800)

pub scalar-in : (digits : List ℕ) → is_scalar digits ≡ true → IsScalar (digits_value 16 digits)
scalar-in digits h = scalar-number (digits_value 16 digits) h

pub scalar-out : (digits : List ℕ) → IsScalar (digits_value 16 digits) → is_scalar digits ≡ true
scalar-out digits h = number-scalar (digits_value 16 digits) h

-- what goes on behind digits

e-in : (c : ℕ) → (c == 101 || c == 69) ≡ true → IsE c
e-in c h = by (either (c == 101) (c == 69) h)
  where
    by : ((c == 101) ≡ true) ⊎ ((c == 69) ≡ true) → IsE c
    by (inl e) = inl (same-if c 101 e)
    by (inr e) = inr (same-if c 69 e)

sign-in : (c : ℕ) → (c == 43 || c == 45) ≡ true → IsPlusOrMinus c
sign-in c h = by (either (c == 43) (c == 45) h)
  where
    by : ((c == 43) ≡ true) ⊎ ((c == 45) ≡ true) → IsPlusOrMinus c
    by (inl e) = inl (same-if c 43 e)
    by (inr e) = inr (same-if c 45 e)

e-out : (c : ℕ) → IsE c → (c == 101 || c == 69) ≡ true
e-out c (inl e) = ap (λ (b : Bool). b || c == 69) (if-same c 101 e)
e-out c (inr e) = ap (λ (b : Bool). c == 101 || b) (if-same c 69 e) ∙ or-true (c == 101)

sign-out : (c : ℕ) → IsPlusOrMinus c → (c == 43 || c == 45) ≡ true
sign-out c (inl e) = ap (λ (b : Bool). b || c == 45) (if-same c 43 e)
sign-out c (inr e) = ap (λ (b : Bool). c == 43 || b) (if-same c 45 e) ∙ or-true (c == 43)

fraction-in : (rest : List ℕ) → is_fraction rest ≡ true → GoesOn rest
fraction-in [] h = absurd (cc)
fraction-in (c ∷ []) h = let parts = both (c == 46) false h in absurd (cc)
fraction-in (c ∷ d ∷ ds) h =
    let parts = both (c == 46) (is_decimal d) h in
    GoesOn.fraction d ds (ap (λ (x : ℕ). x ∷ d ∷ ds) (same-if c 46 parts.0)) parts.1

signed-in : (e : ℕ) (rest : List ℕ) → IsE e → is_signed_digit rest ≡ true → GoesOn (e ∷ rest)
signed-in e [] h k = absurd (cc)
signed-in e (c ∷ []) h k = by (either (is_decimal c) _ k)
  where
    by : (is_decimal c ≡ true) ⊎ (((c == 43 || c == 45) && false) ≡ true) → GoesOn (e ∷ c ∷ [])
    by (inl d) = GoesOn.exponent e c [] refl h d
    by (inr f) = let parts = both (c == 43 || c == 45) false f in absurd (cc)
signed-in e (c ∷ d ∷ ds) h k = by (either (is_decimal c) _ k)
  where
    by : (is_decimal c ≡ true) ⊎ (((c == 43 || c == 45) && is_decimal d) ≡ true) → GoesOn (e ∷ c ∷ d ∷ ds)
    by (inl f) = GoesOn.exponent e c (d ∷ ds) refl h f
    by (inr f) = let parts = both (c == 43 || c == 45) (is_decimal d) f in GoesOn.signed e c d ds refl h (sign-in c parts.0) parts.1

exponent-in : (rest : List ℕ) → is_exponent rest ≡ true → GoesOn rest
exponent-in [] h = absurd (cc)
exponent-in (c ∷ cs) h = let parts = both (c == 101 || c == 69) (is_signed_digit cs) h in signed-in c cs (e-in c parts.0) parts.1

pub goes-in : (rest : List ℕ) → (is_fraction rest || is_exponent rest) ≡ true → GoesOn rest
goes-in rest h = by (either (is_fraction rest) (is_exponent rest) h)
  where
    by : (is_fraction rest ≡ true) ⊎ (is_exponent rest ≡ true) → GoesOn rest
    by (inl e) = fraction-in rest e
    by (inr e) = exponent-in rest e

is-exponent : (e : ℕ) (cs : List ℕ) → IsE e → is_signed_digit cs ≡ true → (is_fraction (e ∷ cs) || is_exponent (e ∷ cs)) ≡ true
is-exponent e cs h k =
    ap (λ (b : Bool). is_fraction (e ∷ cs) || (b && is_signed_digit cs)) (e-out e h)
    ∙ ap (λ (b : Bool). is_fraction (e ∷ cs) || b) k
    ∙ or-true (is_fraction (e ∷ cs))

pub goes-out : (rest : List ℕ) → GoesOn rest → (is_fraction rest || is_exponent rest) ≡ true
goes-out rest (GoesOn.fraction d ds is h) =
    subst (λ (t : List ℕ). (is_fraction t || is_exponent t) ≡ true) (sym is) (ap (λ (b : Bool). b || is_exponent (46 ∷ d ∷ ds)) h)
goes-out rest (GoesOn.exponent e d ds is h k) =
    subst (λ (t : List ℕ). (is_fraction t || is_exponent t) ≡ true) (sym is)
    (is-exponent e (d ∷ ds) h (ap (λ (b : Bool). b || ((d == 43 || d == 45) && is_decimal (first ds))) k))
goes-out rest (GoesOn.signed e s d ds is h k l) =
    subst (λ (t : List ℕ). (is_fraction t || is_exponent t) ≡ true) (sym is)
    (is-exponent e (s ∷ d ∷ ds) h
    (ap (λ (b : Bool). is_decimal s || (b && is_decimal d)) (sign-out s k) ∙ ap (λ (b : Bool). is_decimal s || b) l ∙ or-true (is_decimal s)))

pub stops-out : (rest : List ℕ) → (GoesOn rest → ⊥) → (is_fraction rest || is_exponent rest) ≡ false
stops-out rest h = by (is_fraction rest || is_exponent rest) refl
  where
    by : (b : Bool) → (is_fraction rest || is_exponent rest) ≡ b → b ≡ false
    by true e = absurd (h (goes-in rest e))
    by false e = refl

pub stops-in : (rest : List ℕ) → (is_fraction rest || is_exponent rest) ≡ false → GoesOn rest → ⊥
stops-in rest e h = let wrong : true ≡ false = sym (goes-out rest h) ∙ e in absurd (cc)
