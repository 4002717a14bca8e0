-- The characters of bytes.
use Rattle.std.proofs.Common.{◌≡◌, ℕ, zero, suc, ◌==◌, ◌≤◌, Bool, true, false, cond, nat_lt, List, [], ◌∷◌, ◌++◌, length, take, drop, map, refl, ap, subst, ◌∙◌, append-nil, length-append, length-drop, arith}
use Rattle.std.proofs.lemmas.Bool.Decides.{nat_tests}
use Rattle.std.proofs.lemmas.List.{length-map, take_all, drop_all}
use Rattle.std.proofs.lemmas.Str.{IsUtf8-from_is_utf8, utf8_valid_len-IsUtf8}
use Rattle.std.specs.Str.{IsUtf8, chars, is_utf8}
use Rattle.std.specs.Str.Lossy.{utf8_valid_len, valid_len_up_to}
use Rattle.vdm_lexer.specs.Decoded.{stand_in, characters, good}
use Rattle.vdm_lexer.specs.Lexemes.{mark_length}
use Rattle.vdm_lexer.specs.Pieces.{first}

-- a text that is all UTF-8

pub utf8-characters : (text : List ℕ) → IsUtf8 text → characters text ≡ chars text
utf8-characters text u =
    let all = utf8_valid_len-IsUtf8 text u in
    ap (λ (n : ℕ). chars (take n text) ++ map stand_in (drop n text)) all
    ∙ ap (λ (t : List ℕ). chars t ++ map stand_in (drop (length text) text)) (take_all (length text) text (omega arith))
    ∙ ap (λ (t : List ℕ). chars text ++ map stand_in t) (drop_all (length text) text (omega arith))
    ∙ append-nil (chars text)

pub utf8-good : (text : List ℕ) → IsUtf8 text → good text ≡ length (chars text)
utf8-good text u =
    let all = utf8_valid_len-IsUtf8 text u in
    ap (λ (n : ℕ). length (chars (take n text))) all
    ∙ ap (λ (t : List ℕ). length (chars t)) (take_all (length text) text (omega arith))

-- a text whose characters are all before the first byte that is not UTF-8

empty-utf8 : IsUtf8 []
unfolding is_utf8 chars
empty-utf8 = IsUtf8-from_is_utf8 [] refl

valid-front : (text : List ℕ) (m : ℕ) → IsUtf8 (take (valid_len_up_to text m) text)
valid-front text zero = empty-utf8
valid-front text (suc m) = by (is_utf8 (take (suc m) text)) refl (valid-front text m)
  where
    by : (b : Bool) → is_utf8 (take (suc m) text) ≡ b → IsUtf8 (take (valid_len_up_to text m) text) → IsUtf8 (take (cond b (suc m) (valid_len_up_to text m)) text)
    by true e next = IsUtf8-from_is_utf8 (take (suc m) text) e
    by false e next = next

valid-text : (text : List ℕ) → IsUtf8 (take (utf8_valid_len text) text)
unfolding utf8_valid_len
valid-text text = valid-front text (length text)

pub all-utf8 : (text : List ℕ) → length (characters text) ≤ good text → IsUtf8 text
all-utf8 text h =
    let n = utf8_valid_len text in
    let sum = length-append (chars (take n text)) (map stand_in (drop n text)) in
    let same = length-map (drop n text) stand_in in
    let rest = length-drop n text in
    let none : length text ≤ n = omega arith in
    subst IsUtf8 (take_all n text none) (valid-text text)

-- a byte-order mark is a character before the first byte that is not UTF-8

stand_in-other : (b : ℕ) → (stand_in b == 0xfeff) ≡ false
stand_in-other b = by (nat_lt b 128) refl
  where
    by : (small : Bool) → nat_lt b 128 ≡ small → (cond small b 0xfffd == 0xfeff) ≡ false
    by true e = grind (arith, nat_tests)
    by false e = refl

mark-before : (front behind : List ℕ) → length front ≡ 0 → mark_length (front ++ map stand_in behind) ≡ 0
mark-before [] [] h = refl
mark-before [] (b ∷ behind) h = ap (λ (x : Bool). cond x 1 0) (stand_in-other b)
mark-before (c ∷ front) behind h = absurd (omega arith)

pub mark-good : (text : List ℕ) → mark_length (characters text) ≤ good text
mark-good text = by (good text) refl
  where
    most : (b : Bool) → cond b 1 0 ≤ 1
    most true = omega arith
    most false = omega arith

    by : (n : ℕ) → good text ≡ n → mark_length (characters text) ≤ n
    by zero e = let none = mark-before (chars (take (utf8_valid_len text) text)) (drop (utf8_valid_len text) text) e in omega (arith, none)
    by (suc n) e = let one = most (first (characters text) == 0xfeff) in omega (arith, one)

pub mark-long : (text : List ℕ) → mark_length text ≤ length text
mark-long [] = omega arith
mark-long (c ∷ cs) = by (c == 0xfeff)
  where
    by : (b : Bool) → cond b 1 0 ≤ length (c ∷ cs)
    by true = omega arith
    by false = omega arith
