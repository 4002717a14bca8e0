-- A front that was read, and the answer that follows.
use Rattle.std.proofs.Common.{◌≡◌, ℕ, ◌+◌, ◌≤◌, Bool, false, List, [], ◌∷◌, length, take, drop, length-drop, Option, Some, None, Ok, Err, ap, sym, ◌∙◌, arith}
use Rattle.vdm_kinds.specs.declared.spec_fault.SpecFault.{SpecFault}
use Rattle.vdm_lexer.specs.declared.lexeme.Lexeme.{Lexeme}
use Rattle.grammar_words.specs.Tokens.{Token}
use Rattle.grammar_words.specs.declared.word.PlacedWord.{PlacedWord}
use Rattle.grammar_words.specs.declared.word.Word.{Word}
use Rattle.word_reader.specs.Words.{joined, before, before_next, ends_operand, word_of_lexeme, words_behind, words_from}
use Rattle.token_reader.specs.Read.{AreReadable}
use Rattle.token_reader.proofs.Readable.{lexemes-readable, lexemes-few}
use Rattle.grammar_fronts.specs.declared.front.Front.{Front}
use Rattle.text_answers.specs.Answers.{AreOf, widths, fault_before, by_tree, answered}
use Rattle.text_fronts.specs.FrontRead.{IsFrontRead, IsDeep}

-- there are no more words than lexemes
next-few : (both : Option Word) (word next : PlacedWord) (words : List PlacedWord) → length (before_next both word next words) ≤ 2 + length words
next-few None word next words = omega arith
next-few (Some w) word next words = omega arith

before-few : (ended : Bool) (word : PlacedWord) (words : List PlacedWord) → length (before ended word words) ≤ 1 + length words
before-few ended word [] = omega arith
before-few ended word (next ∷ words) = let few = next-few (joined ended word.word next.word) word next words in omega arith

words-few : (ended : Bool) (text : List ℕ) (found : List Lexeme) → length (words_behind ended text found) ≤ length found
words-few ended text [] = omega arith
words-few ended text (lexeme ∷ found) =
    let rest = words-few (ends_operand (word_of_lexeme text lexeme)) text found in
    let few = before-few ended (record { word = word_of_lexeme text lexeme; place = lexeme.place }) (words_behind (ends_operand (word_of_lexeme text lexeme)) text found) in
    omega arith

-- what is known of a text whose lexemes these are
pub few : (text : List ℕ) (found : List Lexeme) → AreOf text found → length found ≤ 4_194_305
few text found of = lexemes-few of.part text found of.read

pub readable : (text : List ℕ) (found : List Lexeme) → AreOf text found → AreReadable text found
readable text found of = lexemes-readable of.part text found of.read

pub few-words : (text : List ℕ) (found : List Lexeme) (at : ℕ) (words : List PlacedWord) → AreOf text found → words ≡ words_from text found at → length words ≤ 4_194_305
few-words text found at words of is =
    let most = few text found of in
    let all = words-few false text (drop at found) in
    let less = length-drop at found in
    let same : length words ≡ length (words_from text found at) = ap length is in
    omega arith

-- the answer by what was read of a front
module _ {T : Type 0} (tree_of : List Token → Option T) (front : Front) (names : List (List ℕ)) (text : List ℕ) (found : List Lexeme) (at : ℕ) (words : List PlacedWord) where
  answer-read : (tokens : List Token) (next : ℕ) (told : SpecFault) → IsFrontRead front names text found at words tokens next told → answered tree_of names text found at words front ≡ by_tree (tree_of tokens) next told
  answer-read tokens next told r =
      ap (answered tree_of names text found at words) r.reaches
      ∙ ap (λ (ts : List Token). by_tree (tree_of ts) (at + widths (take r.reach.words words)) (fault_before r.reach.left_out (drop r.reach.words words))) (sym r.read.tokens_are)
      ∙ ap (λ (n : ℕ). by_tree (tree_of tokens) n (fault_before r.reach.left_out (drop r.reach.words words))) (sym r.read.next_is)
      ∙ ap (by_tree (tree_of tokens) next) (sym r.read.told_is)

  pub answer-deep : (told : SpecFault) → IsDeep front told → answered tree_of names text found at words front ≡ Err told
  answer-deep told d = ap (answered tree_of names text found at words) d.deep ∙ ap Err (sym d.told_is)

  -- a tree, or none
  pub answer-tree : (tokens : List Token) (next : ℕ) (told : SpecFault) (tree : T) → IsFrontRead front names text found at words tokens next told → Some tree ≡ tree_of tokens → answered tree_of names text found at words front ≡ Ok (tree, next)
  answer-tree tokens next told tree r e = answer-read tokens next told r ∙ ap (λ (o : Option _). by_tree o next told) (sym e)

  pub answer-none : (tokens : List Token) (next : ℕ) (told : SpecFault) → IsFrontRead front names text found at words tokens next told → None ≡ tree_of tokens → answered tree_of names text found at words front ≡ Err told
  answer-none tokens next told r e = answer-read tokens next told r ∙ ap (λ (o : Option _). by_tree o next told) (sym e)
