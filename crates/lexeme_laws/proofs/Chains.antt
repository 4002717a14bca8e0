-- Which reading a text goes to by what it begins with.
use Rattle.std.proofs.Common.{◌≡◌, ℕ, ◌-◌, ◌==◌, ◌&&◌, ◌||◌, ◌≤◌, ◌<◌, Bool, true, false, cond, nat_lt, nat_le, List, ◌∷◌, drop, codes, Option, refl, ap, ◌∙◌, arith}
use Rattle.std.proofs.lemmas.Bool.Decides.{nat_tests}
use Rattle.std.specs.Char.{is_ascii_alphabetic}
use Rattle.unicode_ident.specs.Ident.{is_xid_start}
use Rattle.vdm_kinds.specs.declared.spec_kind.SpecKind.TheVariants.{LexFault}
use Rattle.vdm_lexer.specs.declared.front.Front.TheVariants.{Space, Fault}
use Rattle.vdm_lexer.specs.Characters.{is_blank, is_decimal, is_letter}
use Rattle.vdm_lexer.specs.Comments.{line_comment, block_comment}
use Rattle.vdm_lexer.specs.Fronts.{front_of, token_front, quote_or_sign}
use Rattle.vdm_lexer.specs.Numerals.{numeral_front}
use Rattle.vdm_lexer.specs.Pieces.{first, begins}
use Rattle.vdm_lexer.specs.Quoted.{string_front, character_front, quote_length}
use Rattle.vdm_lexer.specs.Signs.{sign_front}
use Rattle.vdm_lexer.specs.Words.{word_front}
use Rattle.lexeme_laws.specs.Tokens.{IsSignPlace}
use Rattle.lexeme_laws.proofs.Alphabet.{no-letter-out}
use Rattle.lexeme_laws.proofs.Quotes.{no-quote-length}
use Rattle.lexeme_laws.proofs.Runs.{differs}

to-token : (text : List ℕ) → is_blank (first text) ≡ false → begins text (codes "--") ≡ false → begins text (codes "/*") ≡ false → front_of text ≡ token_front text
to-token text blank line block =
    ap (λ (b : Bool). cond b (Space 0) (cond (begins text (codes "--")) (line_comment (drop 1 text)) (cond (begins text (codes "/*")) (block_comment (drop 2 text)) (token_front text)))) blank
    ∙ ap (λ (b : Bool). cond b (line_comment (drop 1 text)) (cond (begins text (codes "/*")) (block_comment (drop 2 text)) (token_front text))) line
    ∙ ap (λ (b : Bool). cond b (block_comment (drop 2 text)) (token_front text)) block

-- a character that passes a test which no blank, `-` or `/` passes
module _ (test : ℕ → Bool) (c : ℕ) (cs : List ℕ) (passes : test c ≡ true) where
  not-blank : test 32 ≡ false → test 9 ≡ false → test 10 ≡ false → test 13 ≡ false → is_blank c ≡ false
  not-blank a b d e =
      ap (λ (x : Bool). x || c == 9 || c == 10 || c == 13) (differs test c 32 passes a)
      ∙ ap (λ (x : Bool). false || x || c == 10 || c == 13) (differs test c 9 passes b)
      ∙ ap (λ (x : Bool). false || false || x || c == 13) (differs test c 10 passes d)
      ∙ ap (λ (x : Bool). false || false || false || x) (differs test c 13 passes e)

  no-begin : (d : ℕ) (ds : List ℕ) → test d ≡ false → begins (c ∷ cs) (d ∷ ds) ≡ false
  unfolding begins
  no-begin d ds h = ap (λ (b : Bool). b && begins cs ds) (differs test c d passes h)

pub at-letter : (c : ℕ) (cs : List ℕ) → is_letter c ≡ true → front_of (c ∷ cs) ≡ word_front (c ∷ cs)
at-letter c cs h =
    to-token (c ∷ cs) (not-blank is_letter c cs h refl refl refl refl) (no-begin is_letter c cs h 45 _ refl) (no-begin is_letter c cs h 47 _ refl)
    ∙ ap (λ (b : Bool). cond b (word_front (c ∷ cs)) (cond (is_decimal c) (numeral_front (c ∷ cs)) (cond (c == 39) (character_front cs) (cond (c == 34) (string_front cs) (cond (c == 60) (quote_or_sign (quote_length cs) (c ∷ cs)) (cond (begins (c ∷ cs) (codes "\\begin{")) (Fault LexFault 0) (sign_front (c ∷ cs)))))))) h

-- a digit is no letter
decimal-range : (c : ℕ) → is_decimal c ≡ true → (48 ≤ c) × (c < 58)
decimal-range c h = by (nat_lt c 48) (nat_lt c 58) (nat_lt c 65) (nat_lt c 91) (nat_lt c 97) (nat_lt c 123) refl refl refl refl refl refl h
  where
    by : (p q r s t u : Bool) → nat_lt c 48 ≡ p → nat_lt c 58 ≡ q → nat_lt c 65 ≡ r → nat_lt c 91 ≡ s → nat_lt c 97 ≡ t → nat_lt c 123 ≡ u → nat_lt (cond p 36 (cond q (c - 48) (cond r 36 (cond s (c - 55) (cond t 36 (cond u (c - 87) 36)))))) 10 ≡ true → (48 ≤ c) × (c < 58)
    by true q r s t u a b d e f g h = absurd (cc)
    by false true r s t u a b d e f g h = (grind (arith, nat_tests), grind (arith, nat_tests))
    by false false true s t u a b d e f g h = absurd (cc)
    by false false false true t u a b d e f g h = absurd (grind (arith, nat_tests))
    by false false false false true u a b d e f g h = absurd (cc)
    by false false false false false true a b d e f g h = absurd (grind (arith, nat_tests))
    by false false false false false false a b d e f g h = absurd (cc)

pub decimal-no-letter : (c : ℕ) → is_decimal c ≡ true → is_letter c ≡ false
decimal-no-letter c h =
    let range = decimal-range c h in
    let least = range.0 in
    let most = range.1 in
    let small : nat_lt c 128 ≡ true = grind (arith, nat_tests) in
    let capital : nat_le 65 c ≡ false = grind (arith, nat_tests) in
    let lower : nat_le 97 c ≡ false = grind (arith, nat_tests) in
    ap (λ (b : Bool). cond b (is_ascii_alphabetic c) (is_xid_start c)) small
    ∙ ap (λ (b : Bool). (b && nat_le c 90) || (nat_le 97 c && nat_le c 122)) capital
    ∙ ap (λ (b : Bool). b && nat_le c 122) lower

pub at-digit : (c : ℕ) (cs : List ℕ) → is_decimal c ≡ true → front_of (c ∷ cs) ≡ numeral_front (c ∷ cs)
at-digit c cs h =
    to-token (c ∷ cs) (not-blank is_decimal c cs h refl refl refl refl) (no-begin is_decimal c cs h 45 _ refl) (no-begin is_decimal c cs h 47 _ refl)
    ∙ ap (λ (b : Bool). cond b (word_front (c ∷ cs)) (cond (is_decimal c) (numeral_front (c ∷ cs)) (cond (c == 39) (character_front cs) (cond (c == 34) (string_front cs) (cond (c == 60) (quote_or_sign (quote_length cs) (c ∷ cs)) (cond (begins (c ∷ cs) (codes "\\begin{")) (Fault LexFault 0) (sign_front (c ∷ cs)))))))) (decimal-no-letter c h)
    ∙ ap (λ (b : Bool). cond b (numeral_front (c ∷ cs)) (cond (c == 39) (character_front cs) (cond (c == 34) (string_front cs) (cond (c == 60) (quote_or_sign (quote_length cs) (c ∷ cs)) (cond (begins (c ∷ cs) (codes "\\begin{")) (Fault LexFault 0) (sign_front (c ∷ cs))))))) h

-- where only a sign may stand
pub at-sign : (text : List ℕ) → IsSignPlace text → front_of text ≡ sign_front text
at-sign text p =
    to-token text p.blank p.line p.block
    ∙ ap (λ (b : Bool). cond b (word_front text) (cond (is_decimal (first text)) (numeral_front text) (cond (first text == 39) (character_front (drop 1 text)) (cond (first text == 34) (string_front (drop 1 text)) (cond (first text == 60) (quote_or_sign (quote_length (drop 1 text)) text) (cond (begins text (codes "\\begin{")) (Fault LexFault 0) (sign_front text))))))) (no-letter-out (first text) p.letter)
    ∙ ap (λ (b : Bool). cond b (numeral_front text) (cond (first text == 39) (character_front (drop 1 text)) (cond (first text == 34) (string_front (drop 1 text)) (cond (first text == 60) (quote_or_sign (quote_length (drop 1 text)) text) (cond (begins text (codes "\\begin{")) (Fault LexFault 0) (sign_front text)))))) p.digit
    ∙ ap (λ (b : Bool). cond b (character_front (drop 1 text)) (cond (first text == 34) (string_front (drop 1 text)) (cond (first text == 60) (quote_or_sign (quote_length (drop 1 text)) text) (cond (begins text (codes "\\begin{")) (Fault LexFault 0) (sign_front text))))) p.character
    ∙ ap (λ (b : Bool). cond b (string_front (drop 1 text)) (cond (first text == 60) (quote_or_sign (quote_length (drop 1 text)) text) (cond (begins text (codes "\\begin{")) (Fault LexFault 0) (sign_front text)))) p.string
    ∙ ap (λ (b : Bool). cond (first text == 60) (quote_or_sign (quote_length (drop 1 text)) text) (cond b (Fault LexFault 0) (sign_front text))) p.begin
    ∙ by (first text == 60) refl
  where
    by : (b : Bool) → (first text == 60) ≡ b → cond b (quote_or_sign (quote_length (drop 1 text)) text) (sign_front text) ≡ sign_front text
    by true e = ap (λ (found : Option ℕ). quote_or_sign found text) (no-quote-length text e p.quote)
    by false e = refl
