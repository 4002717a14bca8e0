-- The quote that stands in front of a text.
use Rattle.std.proofs.Common.{◌≡◌, ℕ, suc, ◌+◌, ◌-◌, ◌==◌, ◌&&◌, ◌||◌, ◌<◌, Bool, true, false, cond, List, [], ◌∷◌, ◌++◌, length, take, drop, Option, Some, None, refl, ap, sym, ◌∙◌, append_assoc, length-append, arith}
use Rattle.std.specs.List.{prefix_len}
use Rattle.std.proofs.lemmas.List.{take-append-drop, drop_at, length-take-le}
use Rattle.std.proofs.lemmas.List.Sums.{prefix_len-le-length}
use Rattle.unicode_ident.proofs.IdentLemmas.{is_xid_start-is_xid_continue}
use Rattle.vdm_lexer.specs.Characters.{is_letter, is_of_word}
use Rattle.vdm_lexer.specs.Pieces.{first}
use Rattle.vdm_lexer.specs.Quoted.{quote_length}
use Rattle.vdm_lexer.proofs.Unicode.{letter-unicode, of_word-unicode}
use Rattle.lexeme_laws.specs.Literals.{IsQuote}
use Rattle.lexeme_laws.specs.Longest.{AreAll, NoFront}
use Rattle.lexeme_laws.proofs.Alphabet.{letter-in, letter-out, word-in, word-out}
use Rattle.lexeme_laws.proofs.Begun.{same-if}
use Rattle.lexeme_laws.proofs.Runs.{run-length, run-all}

pub letter-of-word : (c : ℕ) → is_letter c ≡ true → is_of_word c ≡ true
letter-of-word c h = of_word-unicode c ∙ ap (λ (b : Bool). b || c == 39) (is_xid_start-is_xid_continue c (sym (letter-unicode c) ∙ h))

-- a text that begins with a character
pub record BeginsWith (c : ℕ) (text : List ℕ) : Type 0 where
  pub behind : List ℕ
  pub is : text ≡ c ∷ behind

pub first-is : (text : List ℕ) (c : ℕ) → 0 < c → (first text == c) ≡ true → BeginsWith c text
first-is [] c some h = let z = same-if 0 c h in absurd (omega arith)
first-is (d ∷ ds) c some h = record { behind = ds; is = ap (λ (x : ℕ). x ∷ ds) (same-if d c h) }

quote-taken : (letter : ℕ) (others rest : List ℕ) → is_letter letter ≡ true → AreAll is_of_word others → quote_length ((letter ∷ others) ++ 62 ∷ rest) ≡ Some (length (letter ∷ others) + 1)
quote-taken letter others rest first_ all =
    let text : List ℕ = (letter ∷ others) ++ 62 ∷ rest in
    let run : prefix_len is_of_word text ≡ length (letter ∷ others) = run-length is_of_word (letter ∷ others) (62 ∷ rest) (letter-of-word letter first_, all) refl in
    let behind : drop (length (letter ∷ others)) text ≡ 62 ∷ rest = drop_at (letter ∷ others) (62 ∷ rest) _ refl in
    ap (λ (b : Bool). cond (b && first (drop (prefix_len is_of_word text) text) == 62) (Some (prefix_len is_of_word text + 1)) None) first_
    ∙ ap (λ (n : ℕ). cond (first (drop n text) == 62) (Some (n + 1)) None) run
    ∙ ap (λ (t : List ℕ). cond (first t == 62) (Some (length (letter ∷ others) + 1)) None) behind

pub quote-read : (piece rest : List ℕ) → IsQuote piece → quote_length (drop 1 (piece ++ rest)) ≡ Some (length piece - 1)
quote-read piece rest q =
    let w = q.named in
    let whole : drop 1 (piece ++ rest) ≡ (w.letter ∷ w.others) ++ 62 ∷ rest =
    ap (λ (p : List ℕ). drop 1 (p ++ rest)) q.is ∙ append_assoc q.word (62 ∷ []) rest ∙ ap (λ (t : List ℕ). t ++ 62 ∷ rest) w.is in
    let long : length piece ≡ length (60 ∷ (q.word ++ 62 ∷ [])) = ap length q.is in
    let sum = length-append q.word (62 ∷ []) in
    let same : length q.word ≡ length (w.letter ∷ w.others) = ap length w.is in
    let n : length (w.letter ∷ w.others) + 1 ≡ length piece - 1 = omega arith in
    ap quote_length whole ∙ quote-taken w.letter w.others rest (letter-out w.letter w.first) (word-out w.others w.of_word) ∙ ap Some n

pub record IsQuoted (text : List ℕ) (n : ℕ) : Type 0 where
  pub piece : List ℕ
  pub rest : List ℕ
  pub is : text ≡ piece ++ rest
  pub quote : IsQuote piece
  pub long : length piece ≡ n + 1

quoted-word : (d : ℕ) (ds : List ℕ) (n : ℕ) → is_letter d ≡ true → (first (drop (prefix_len is_of_word ds) ds) == 62) ≡ true → n ≡ prefix_len is_of_word ds + 2 → IsQuoted (60 ∷ d ∷ ds) n
quoted-word d ds n h k e =
    let p = prefix_len is_of_word ds in
    let close = first-is (drop p ds) 62 (omega arith) k in
    let most = prefix_len-le-length is_of_word ds in
    let whole : ds ≡ (take p ds ++ 62 ∷ []) ++ close.behind =
    sym (take-append-drop p ds) ∙ ap (λ (t : List ℕ). take p ds ++ t) close.is ∙ sym (append_assoc (take p ds) (62 ∷ []) close.behind) in
    let long : length ds ≡ length ((take p ds ++ 62 ∷ []) ++ close.behind) = ap length whole in
    let first_sum = length-append (take p ds ++ 62 ∷ []) close.behind in
    let second_sum = length-append (take p ds) (62 ∷ []) in
    let all_sum : length (take p ds) + length (drop p ds) ≡ length ds = sym (length-append (take p ds) (drop p ds)) ∙ ap length (take-append-drop p ds) in
    let taken = length-take-le p ds most in
    record {
      piece = 60 ∷ ((d ∷ take p ds) ++ 62 ∷ []);
      rest = close.behind;
      is = ap (λ (t : List ℕ). 60 ∷ d ∷ t) whole;
      quote = record { word = d ∷ take p ds; is = refl; named = record { letter = d; others = take p ds; is = refl; first = letter-in d h; of_word = word-in (take p ds) (run-all is_of_word ds) } };
      long = omega arith;
    }

pub quote-found : (cs : List ℕ) (n : ℕ) → quote_length cs ≡ Some n → IsQuoted (60 ∷ cs) n
quote-found [] n e = absurd (cc)
quote-found (d ∷ ds) n e = by (is_letter d) refl e
  where
    open_ : is_letter d ≡ true → cond (first (drop (prefix_len is_of_word (d ∷ ds)) (d ∷ ds)) == 62) (Some (prefix_len is_of_word (d ∷ ds) + 1)) None ≡ Some n → IsQuoted (60 ∷ d ∷ ds) n
    open_ h e =
        let one : prefix_len is_of_word (d ∷ ds) ≡ suc (prefix_len is_of_word ds) = ap (λ (b : Bool). cond b (1 + prefix_len is_of_word ds) 0) (letter-of-word d h) ∙ omega arith in
        let f : cond (first (drop (prefix_len is_of_word ds) ds) == 62) (Some (suc (prefix_len is_of_word ds) + 1)) None ≡ Some n =
        sym (ap (λ (m : ℕ). cond (first (drop m (d ∷ ds)) == 62) (Some (m + 1)) None) one) ∙ e in
        closed h (first (drop (prefix_len is_of_word ds) ds) == 62) refl f
      where
        closed : is_letter d ≡ true → (b : Bool) → (first (drop (prefix_len is_of_word ds) ds) == 62) ≡ b → cond b (Some (suc (prefix_len is_of_word ds) + 1)) None ≡ Some n → IsQuoted (60 ∷ d ∷ ds) n
        closed h true k f = let m : n ≡ suc (prefix_len is_of_word ds) + 1 = cc in quoted-word d ds n h k (omega arith)
        closed h false k f = absurd (cc)

    by : (b : Bool) → is_letter d ≡ b → cond (b && first (drop (prefix_len is_of_word (d ∷ ds)) (d ∷ ds)) == 62) (Some (prefix_len is_of_word (d ∷ ds) + 1)) None ≡ Some n → IsQuoted (60 ∷ d ∷ ds) n
    by true h e = open_ h e
    by false h e = absurd (cc)

pub no-quote-length : (text : List ℕ) → (first text == 60) ≡ true → NoFront IsQuote text → quote_length (drop 1 text) ≡ None
no-quote-length text h none = by (quote_length (drop 1 text)) refl
  where
    by : (found : Option ℕ) → quote_length (drop 1 text) ≡ found → found ≡ None
    by None e = refl
    by (Some n) e =
        let begun = first-is text 60 (omega arith) h in
        let quoted = quote-found begun.behind n (ap (λ (t : List ℕ). quote_length (drop 1 t)) (sym begun.is) ∙ e) in
        absurd (none quoted.piece quoted.rest (begun.is ∙ quoted.is) quoted.quote)
