-- The longest sign that stands in front of a text.
use Rattle.std.proofs.Common.{◌≡◌, ℕ, zero, suc, ◌<◌, ◌≤◌, ◌==◌, ◌&&◌, ◌⊎◌, inl, inr, Bool, true, false, cond, nat_lt, List, [], ◌∷◌, ◌++◌, length, get_or, map, take, drop, Option, Some, None, refl, ap, sym, ◌∙◌, append_assoc, length-append, arith}
use Rattle.std.specs.List.{IsAmong, list_all}
use Rattle.std.proofs.lemmas.List.{take_at, nil_from_length}
use Rattle.std.proofs.lemmas.Bool.Decides.{nat_tests}
use Rattle.vdm_lexer.specs.declared.written.WrittenKind.{WrittenKind}
use Rattle.vdm_lexer.specs.declared.written.WrittenKind.TheVariants.{Reserved, LeftOut, Sign}
use Rattle.vdm_lexer.specs.Pieces.{begins, is_text}
use Rattle.vdm_lexer.specs.Signs.{longest, sign_front, sign_token}
use Rattle.vdm_lexer.specs.Written.{Row, kind_in, signs, sign_texts}
use Rattle.vdm_lexer.proofs.Longest.{none_longer, longest-there}
use Rattle.lexeme_laws.specs.Longest.{IsLongest, NoFront}
use Rattle.lexeme_laws.specs.Tokens.{IsSign}
use Rattle.lexeme_laws.proofs.Begun.{both, begins-sound, begins-complete, if-same}

-- what a table holds of each text it holds of one that is among them
all-among-at : (test : List ℕ → Bool) (table : List (List ℕ)) (x : List ℕ) (i : ℕ) → list_all test table ≡ true → i < length table → x ≡ get_or table i x → test x ≡ true
all-among-at test [] x i h short is = absurd (omega arith)
all-among-at test (row ∷ rows) x zero h short is = ap test is ∙ (both (test row) (list_all test rows) h).0
all-among-at test (row ∷ rows) x (suc i) h short is = all-among-at test rows x i (both (test row) (list_all test rows) h).1 (omega arith) is

all-among : (test : List ℕ → Bool) (table : List (List ℕ)) (x : List ℕ) → list_all test table ≡ true → IsAmong table x → test x ≡ true
all-among test table x h among = all-among-at test table x among.0 h among.1.0 among.1.1

pub sign-some : (piece : List ℕ) → IsSign piece → 0 < length piece
sign-some piece sign = let h : nat_lt 0 (length piece) ≡ true = all-among (λ (t : List ℕ). nat_lt 0 (length t)) sign_texts piece refl sign in grind (arith, nat_tests)

-- the kind of a sign

text-same : (text : List ℕ) → is_text text text ≡ true
unfolding is_text begins
text-same [] = refl
text-same (c ∷ cs) =
    let parts = both (length cs == length cs) (begins cs cs) (text-same cs) in
    ap (λ (b : Bool). (length (c ∷ cs) == length (c ∷ cs)) && (b && begins cs cs)) (if-same c c refl)
    ∙ ap (λ (b : Bool). b && begins cs cs) (if-same (length (c ∷ cs)) (length (c ∷ cs)) refl)
    ∙ parts.1

among-none-at : (rows : List Row) (x : List ℕ) (i : ℕ) → kind_in x rows ≡ None → i < length (map (λ row. row.0) rows) → x ≡ get_or (map (λ row. row.0) rows) i x → ⊥
unfolding kind_in
among-none-at [] x i e short is = absurd (omega arith)
among-none-at (row ∷ rows) x zero e short is =
    let same : is_text x row.0 ≡ true = ap (is_text x) (sym is) ∙ text-same x in
    let wrong : Some row.1 ≡ None = sym (ap (λ (b : Bool). cond b (Some row.1) (kind_in x rows)) same) ∙ e in
    absurd (cc)
among-none-at (row ∷ rows) x (suc i) e short is = by (is_text x row.0) e (λ f. among-none-at rows x i f (omega arith) is)
  where
    by : (b : Bool) → cond b (Some row.1) (kind_in x rows) ≡ None → (kind_in x rows ≡ None → ⊥) → ⊥
    by true e next = absurd (cc)
    by false e next = next e

is_of_signs : WrittenKind → Bool
is_of_signs Reserved = false
is_of_signs LeftOut = true
is_of_signs Sign = true

rows-of-signs : list_all (λ (row : Row). is_of_signs row.1) signs ≡ true
unfolding is_of_signs
rows-of-signs = refl

never-reserved : (rows : List Row) (x : List ℕ) → list_all (λ (row : Row). is_of_signs row.1) rows ≡ true → kind_in x rows ≡ Some Reserved → ⊥
unfolding kind_in is_of_signs
never-reserved [] x h e = absurd (cc)
never-reserved (row ∷ rows) x h e = by (is_text x row.0) row.1 e (both (is_of_signs row.1) (list_all (λ (row : Row). is_of_signs row.1) rows) h).0 (never-reserved rows x (both (is_of_signs row.1) (list_all (λ (row : Row). is_of_signs row.1) rows) h).1)
  where
    by : (b : Bool) (kind : WrittenKind) → cond b (Some kind) (kind_in x rows) ≡ Some Reserved → is_of_signs kind ≡ true → (kind_in x rows ≡ Some Reserved → ⊥) → ⊥
    by true Reserved e k next = absurd (cc)
    by true LeftOut e k next = absurd (cc)
    by true Sign e k next = absurd (cc)
    by false kind e k next = next e

pub sign-kind : (piece : List ℕ) → IsSign piece → (kind_in piece signs ≡ Some Sign) ⊎ (kind_in piece signs ≡ Some LeftOut)
sign-kind piece sign = by (kind_in piece signs) refl
  where
    by : (found : Option WrittenKind) → kind_in piece signs ≡ found → (kind_in piece signs ≡ Some Sign) ⊎ (kind_in piece signs ≡ Some LeftOut)
    by None e = absurd (among-none-at signs piece sign.0 e sign.1.0 sign.1.1)
    by (Some Reserved) e = absurd (never-reserved signs piece rows-of-signs e)
    by (Some LeftOut) e = inr e
    by (Some Sign) e = inl e

-- the longest sign

pub record IsPrefix (a b c d : List ℕ) : Type 0 where
  pub more : List ℕ
  pub longer : c ≡ a ++ more
  pub rest : b ≡ more ++ d

pub prefix-of : (a b c d : List ℕ) → a ++ b ≡ c ++ d → length a ≤ length c → IsPrefix a b c d
prefix-of [] b c d e h = record { more = c; longer = refl; rest = e }
prefix-of (x ∷ a) b [] d e h = absurd (omega arith)
prefix-of (x ∷ a) b (y ∷ c) d e h =
    let same : x ≡ y = ap (λ (t : List ℕ). get_or t 0 0) e in
    let next = prefix-of a b c d (ap (drop 1) e) (omega arith) in
    record { more = next.more; longer = ap (λ (t : List ℕ). y ∷ t) next.longer ∙ ap (λ (z : ℕ). z ∷ (a ++ next.more)) (sym same); rest = next.rest }

begun : (text piece rest : List ℕ) → text ≡ piece ++ rest → begins text piece ≡ true
begun text piece rest is = ap (λ (t : List ℕ). begins t piece) is ∙ begins-complete piece rest

nil-more : (piece more : List ℕ) (n : ℕ) → length (piece ++ more) ≤ n → n ≡ length piece → more ≡ []
nil-more piece more n h e = let sum = length-append piece more in nil_from_length more (omega arith)

pub sign-length : (piece rest : List ℕ) → IsLongest IsSign piece rest → longest (piece ++ rest) sign_texts ≡ length piece
sign-length piece rest l =
    let text : List ℕ = piece ++ rest in
    let least = none_longer text piece sign_texts l.is (begins-complete piece rest) in
    let some = sign-some piece l.is in
    let there = longest-there text sign_texts (omega arith) in
    let behind = begins-sound text there.sign there.begins in
    let is_long = there.length in
    let split = prefix-of piece rest there.sign behind.0 behind.1 (omega arith) in
    let longer : IsSign (piece ++ split.more) = rw (sym split.longer) there.among in
    let none = l.longest split.more behind.0 split.rest longer in
    let same : length there.sign ≡ length (piece ++ []) = ap length split.longer ∙ ap (λ (t : List ℕ). length (piece ++ t)) none in
    let sum = length-append piece [] in
    omega (arith, same, sum, is_long)

pub sign-read : (piece rest : List ℕ) → IsLongest IsSign piece rest → sign_front (piece ++ rest) ≡ sign_token (kind_in piece signs) (length piece)
sign-read piece rest l =
    ap (λ (n : ℕ). sign_token (kind_in (take n (piece ++ rest)) signs) n) (sign-length piece rest l)
    ∙ ap (λ (p : List ℕ). sign_token (kind_in p signs) (length piece)) (take_at piece rest (length piece) refl)

-- a text begins with a longest sign or with none

pub data IsSignCut (text : List ℕ) : Type 0 where
  some : (piece rest : List ℕ) → text ≡ piece ++ rest → IsLongest IsSign piece rest → IsSignCut text
  none : longest text sign_texts ≡ 0 → NoFront IsSign text → IsSignCut text

no-sign : (text : List ℕ) → longest text sign_texts ≡ 0 → NoFront IsSign text
no-sign text e piece rest is sign =
    let least = none_longer text piece sign_texts sign (begun text piece rest is) in
    let more = sign-some piece sign in
    absurd (omega arith)

pub sign-none : (text : List ℕ) → NoFront IsSign text → longest text sign_texts ≡ 0
sign-none text lack = by (longest text sign_texts) refl
  where
    by : (n : ℕ) → longest text sign_texts ≡ n → n ≡ 0
    by zero e = refl
    by (suc n) e =
        let there = longest-there text sign_texts (omega arith) in
        let behind = begins-sound text there.sign there.begins in
        absurd (lack there.sign behind.0 behind.1 there.among)

pub sign-cut : (text : List ℕ) → IsSignCut text
sign-cut text = by (longest text sign_texts) refl
  where
    by : (n : ℕ) → longest text sign_texts ≡ n → IsSignCut text
    by zero e = none e (no-sign text e)
    by (suc n) e =
        let there = longest-there text sign_texts (omega arith) in
        let behind = begins-sound text there.sign there.begins in
        let long = there.length in
        some there.sign behind.0 behind.1 (record {
          is = there.among;
          longest = λ more others f sign.
              (let whole : text ≡ (there.sign ++ more) ++ others = behind.1 ∙ ap (λ (t : List ℕ). there.sign ++ t) f ∙ sym (append_assoc there.sign more others) in
              nil-more there.sign more (longest text sign_texts) (none_longer text (there.sign ++ more) sign_texts sign (begun text (there.sign ++ more) others whole)) (sym long));
        })
