-- What is read of a front, before its tree.
use Rattle.std.specs.Prelude.{◌≡◌, ℕ, ◌+◌, List, take, drop}
use Rattle.vdm_kinds.specs.declared.place.Place.{Place}
use Rattle.vdm_kinds.specs.declared.spec_fault.SpecFault.{SpecFault}
use Rattle.vdm_kinds.specs.declared.spec_kind.SpecKind.TheVariants as fault
use Rattle.vdm_lexer.specs.declared.lexeme.Lexeme.{Lexeme}
use Rattle.vdm_lexer.specs.Lexemes.{fault_at}
use Rattle.grammar_words.specs.declared.word.PlacedWord.{PlacedWord}
use Rattle.grammar_words.specs.Tokens.{Token}
use Rattle.token_reader.specs.Read.{tokens_from}
use Rattle.grammar_fronts.specs.declared.front.Front.{Front}
use Rattle.grammar_fronts.specs.declared.front.Front.TheVariants.{TooDeep, Reaches}
use Rattle.grammar_fronts.specs.declared.front.Reach.{Reach}
use Rattle.text_answers.specs.Answers.{widths, fault_before}

-- the tokens of a front of words, the number of the lexeme behind it, and the fault that stands there if it is no tree
pub record IsReach (names : List (List ℕ)) (text : List ℕ) (found : List Lexeme) (at : ℕ) (words : List PlacedWord) (reach : Reach) (tokens : List Token) (next : ℕ) (told : SpecFault) : Type 0 where
  pub tokens_are : tokens ≡ tokens_from names text (drop at found) (take reach.words words)
  pub next_is : next ≡ at + widths (take reach.words words)
  pub told_is : told ≡ fault_before reach.left_out (drop reach.words words)

-- this front of the words of a text from a lexeme on
pub record IsFrontRead (front : Front) (names : List (List ℕ)) (text : List ℕ) (found : List Lexeme) (at : ℕ) (words : List PlacedWord) (tokens : List Token) (next : ℕ) (told : SpecFault) : Type 0 where
  pub reach : Reach
  pub reaches : front ≡ Reaches reach
  pub read : IsReach names text found at words reach tokens next told

-- a word of it is too deep
pub record IsDeep (front : Front) (told : SpecFault) : Type 0 where
  pub place : Place
  pub deep : front ≡ TooDeep place
  pub told_is : told ≡ fault_at fault.TooDeep place
