-- How many lexemes and names a text has.
use Rattle.std.proofs.Common.{◌≡◌, ℕ, ◌+◌, ◌<◌, ◌≤◌, Bool, true, false, if◌then◌else◌, nat_lt, List, [], ◌∷◌, length, drop, length-drop, Option, Some, None, Result, Ok, Err, IfOk, OnOk, refl, ap, subst, arith}
use Rattle.vdm_kinds.specs.NameList.{built_in_names, with_name, with_names}
use Rattle.vdm_kinds.specs.declared.part.Part.{Part}
use Rattle.vdm_kinds.specs.declared.spec_kind.SpecKind.TheVariants.{TooLong}
use Rattle.vdm_names.proofs.NameLemmas.{length-with_name}
use Rattle.vdm_lexer.specs.declared.lexeme.Lexeme.{Lexeme}
use Rattle.vdm_lexer.specs.Decoded.{characters, good}
use Rattle.vdm_lexer.specs.Lexemes.{Reading, fault_at, lexemes, lexemes_of, limit_of}
use Rattle.vdm_lexer.specs.Rising.{Rises}
use Rattle.vdm_lexer.specs.Spots.{start_of, bytes_of}
use Rattle.vdm_lexer.proofs.Rising.{lexemes-rise}
use Rattle.vdm_kinds.specs.declared.sign.Sign.TheVariants.{InSet, NotInSet}
use Rattle.grammar_words.specs.declared.word.Word.{Word}
use Rattle.grammar_words.specs.declared.word.Word.TheVariants.{Operator}
use Rattle.grammar_words.specs.declared.word.PlacedWord.{PlacedWord}
use Rattle.grammar_words.specs.Tokens.{width}
use Rattle.word_reader.specs.Words.{words_from}
use Rattle.token_reader.specs.Read.{text_before, first_name, named_texts}
use Rattle.token_reader.proofs.Readable.{lexemes-few}
use Rattle.spec_answers.specs.Answers.{spec_names}

-- ---- a text has a lexeme: its end

rises-some : (least size : ℕ) (found : List Lexeme) → Rises least size found → 0 < length found
rises-some least size [] h = absurd h
rises-some least size (lexeme ∷ found) h = omega arith

if_ok : {A E : Type 0} (r : Result A E) (P : A → Type 0) → ((a : A) → r ≡ Ok a → P a) → IfOk r P
if_ok (Ok a) P h = h a refl
if_ok (Err e) P h = tt

if_short : {A E : Type 0} (long : Bool) (told : E) (r : Result A E) (P : A → Type 0) → IfOk r P → IfOk (if long then Err told else r) P
if_short true told r P h = tt
if_short false told r P h = h

pub lexemes_some : (part : Part) (text : List ℕ) (found : List Lexeme) → lexemes part text ≡ Ok found → 0 < length found
lexemes_some part text found e =
    let P : List Lexeme → Type 0 = λ ls. 0 < length ls in
    subst (λ (r : Reading). IfOk r P) e
    (if_short (nat_lt (limit_of part) (length text)) (fault_at TooLong (start_of part)) (lexemes_of part (good text) (characters text)) P
    (if_ok (lexemes_of part (good text) (characters text)) P
    (λ ls is. rises-some 0 (bytes_of (characters text)) ls (lexemes-rise part (good text) (characters text) ls is))))

-- ---- there are no more names than lexemes

width-is : (w : Word) → (n : ℕ) × (width w ≡ n + 1)
width-is (Operator InSet) = (1, refl)
width-is (Operator NotInSet) = (2, refl)
width-is w = (0, refl)

before-few : (piece : Option (List ℕ)) (pieces : List (List ℕ)) → length (text_before piece pieces) ≤ 1 + length pieces
before-few None pieces = omega arith
before-few (Some piece) pieces = omega arith

named-few : (text : List ℕ) (found : List Lexeme) (words : List PlacedWord) → length (named_texts text found words) ≤ length found
named-few text found [] = omega arith
named-few text [] (word ∷ words) =
    let rest = named-few text (drop (width word.word) []) words in
    let none : List Lexeme = [] in
    let less = length-drop (width word.word) none in
    let same : length (named_texts text none (word ∷ words)) ≡ length (named_texts text (drop (width word.word) none) words) = refl in
    omega arith
named-few text (lexeme ∷ found) (word ∷ words) =
    let rest = named-few text (drop (width word.word) (lexeme ∷ found)) words in
    let some = (width-is word.word).1 in
    let less = length-drop (width word.word) (lexeme ∷ found) in
    let more = before-few (first_name text (lexeme ∷ found) word) (named_texts text (drop (width word.word) (lexeme ∷ found)) words) in
    omega arith

with-few : (names texts : List (List ℕ)) → length (with_names names texts) ≤ length names + length texts
with-few names [] = omega arith
with-few names (text ∷ texts) =
    let one = length-with_name names text in
    let rest = with-few (with_name names text) texts in
    omega arith

on_ok : {A E : Type 0} (r : Result A E) (P Q : Type 0) → (P → Q) → OnOk r P → OnOk r Q
on_ok (Ok a) P Q h p = h p
on_ok (Err e) P Q h p = p

-- as many names as the longest specification has lexemes, and the built-in ones
pub names_few : {A E : Type 0} (part : Part) (text : List ℕ) (found : List Lexeme) (old new : List (List ℕ)) (result : Result A E)
    → lexemes part text ≡ Ok found → old ≡ built_in_names → OnOk result (new ≡ spec_names old text found) → OnOk result (length new ≤ 4_194_308)
names_few part text found old new result lexed start = on_ok result _ _ (λ is.
    let words = words_from text found 0 in
    let few = lexemes-few part text found lexed in
    let named = named-few text (drop 0 found) words in
    let all = with-few old (named_texts text (drop 0 found) words) in
    let first : length old ≡ 3 = ap length start in
    let same : length new ≡ length (with_names old (named_texts text (drop 0 found) words)) = ap length is in
    omega arith)
