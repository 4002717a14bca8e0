-- The longest word that stands in front of a text.
use Rattle.std.proofs.Common.{◌≡◌, ℕ, suc, ◌+◌, true, List, [], ◌∷◌, ◌++◌, length, take, drop, refl, ap, sym, subst, ◌∙◌, arith}
use Rattle.std.specs.List.{prefix_len}
use Rattle.std.proofs.lemmas.List.{take_at}
use Rattle.vdm_lexer.specs.Characters.{is_letter, is_of_word}
use Rattle.vdm_lexer.specs.Words.{word_front, word_token}
use Rattle.vdm_lexer.specs.Written.{kind_in, words}
use Rattle.lexeme_laws.specs.Longest.{AreAll, IsLongest}
use Rattle.lexeme_laws.specs.Literals.{IsWord}
use Rattle.lexeme_laws.proofs.Alphabet.{letter-in, word-in, word-out}
use Rattle.lexeme_laws.proofs.Runs.{Stops, all-append, all-behind, run-length, run-all, run-stops, stops-longest, longest-stops}

-- a word goes on with characters of words alone
word-on : (letter : ℕ) (others : List ℕ) (c : ℕ) (more : List ℕ) → IsWord ((letter ∷ others) ++ c ∷ more) → is_of_word c ≡ true
word-on letter others c more w =
    let rest : others ++ c ∷ more ≡ w.others = ap (drop 1) w.is in
    let all = subst (AreAll is_of_word) (sym rest) (word-out w.others w.of_word) in
    (all-behind is_of_word others (c ∷ more) all).0

pub word-longest : (letter : ℕ) (others rest : List ℕ) → is_letter letter ≡ true → AreAll is_of_word others → Stops is_of_word rest → IsLongest IsWord (letter ∷ others) rest
word-longest letter others rest first all stops =
    longest-stops is_of_word IsWord (letter ∷ others) rest (record { letter = letter; others = others; is = refl; first = letter-in letter first; of_word = word-in others all }) stops (word-on letter others)

-- what stands behind the longest word
pub word-stops : (letter : ℕ) (others rest : List ℕ) → is_letter letter ≡ true → AreAll is_of_word others → IsLongest IsWord (letter ∷ others) rest → Stops is_of_word rest
word-stops letter others rest first all l =
    stops-longest is_of_word IsWord (letter ∷ others) rest l
    (λ c passes. record { letter = letter; others = others ++ c ∷ []; is = refl; first = letter-in letter first; of_word = word-in (others ++ c ∷ []) (all-append is_of_word others (c ∷ []) all (passes, tt)) })

-- what the reading takes of a text whose first character is a letter
pub word-taken : (c : ℕ) (cs : List ℕ) → take (prefix_len is_of_word cs + 1) (c ∷ cs) ≡ c ∷ take (prefix_len is_of_word cs) cs
word-taken c cs = let n : prefix_len is_of_word cs + 1 ≡ suc (prefix_len is_of_word cs) = omega arith in ap (λ (n : ℕ). take n (c ∷ cs)) n

pub word-found : (c : ℕ) (cs : List ℕ) → is_letter c ≡ true → IsLongest IsWord (c ∷ take (prefix_len is_of_word cs) cs) (drop (prefix_len is_of_word cs) cs)
word-found c cs first = word-longest c _ _ first (run-all is_of_word cs) (run-stops is_of_word cs)

-- the longest word is what the reading takes
pub word-read : (letter : ℕ) (others rest : List ℕ) → is_letter letter ≡ true → AreAll is_of_word others → IsLongest IsWord (letter ∷ others) rest → word_front ((letter ∷ others) ++ rest) ≡ word_token (kind_in (letter ∷ others) words) (length others)
word-read letter others rest first all l =
    let more : prefix_len is_of_word (others ++ rest) ≡ length others = run-length is_of_word others rest all (word-stops letter others rest first all l) in
    let piece : take (length others + 1) ((letter ∷ others) ++ rest) ≡ letter ∷ others = take_at (letter ∷ others) rest (length others + 1) (omega arith) in
    ap (λ (n : ℕ). word_token (kind_in (take (n + 1) ((letter ∷ others) ++ rest)) words) n) more
    ∙ ap (λ (p : List ℕ). word_token (kind_in p words) (length others)) piece
