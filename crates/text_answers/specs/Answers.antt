-- What a text is read as from a lexeme on: the tree of its longest viable front, or a fault.
use Rattle.std.specs.Prelude.{◌≡◌, ℕ, ◌+◌, Bool, if◌then◌else◌, List, [], ◌∷◌, take, drop, Option, Some, None, Result, Ok, Err}
use Rattle.vdm_kinds.specs.declared.part.Part.{Part}
use Rattle.vdm_kinds.specs.declared.part.Part.TheVariants.{Spec}
use Rattle.vdm_kinds.specs.declared.place.Place.{Place}
use Rattle.vdm_kinds.specs.declared.spec_fault.SpecFault.{SpecFault}
use Rattle.vdm_kinds.specs.declared.spec_kind.SpecKind.TheVariants as fault
use Rattle.vdm_lexer.specs.declared.lexeme.Lexeme.{Lexeme}
use Rattle.vdm_lexer.specs.Lexemes.{fault_at, lexemes}
use Rattle.grammar_words.specs.declared.word.PlacedWord.{PlacedWord}
use Rattle.grammar_words.specs.Tokens.{Token, width}
use Rattle.word_reader.specs.Words.{words_from}
use Rattle.token_reader.specs.Read.{names_behind, tokens_from}
use Rattle.grammar_fronts.specs.declared.front.Front.{Front}
use Rattle.grammar_fronts.specs.declared.front.Front.TheVariants.{TooDeep, Reaches}
use Rattle.grammar_fronts.specs.declared.kind.Kind.{Kind}
use Rattle.grammar_fronts.specs.Fronts.{front_of}

-- lexemes are those of a text
pub record AreOf (text : List ℕ) (found : List Lexeme) : Type 0 where
  pub part : Part
  pub read : lexemes part text ≡ Ok found

-- a tree, and the number of the lexeme behind it; or why there is none
abbrev pub Answer : Type 0 → Type 0
Answer T = Result (T × ℕ) SpecFault

-- of how many lexemes words are made
abbrev pub widths : List PlacedWord → ℕ
widths [] = 0
widths (word ∷ words) = width word.word + widths words

-- where the first of words stands; there is one, since the end of the text is never taken
abbrev pub first_place : List PlacedWord → Place
first_place [] = record { part = Spec; line = 1; column = 1 }
first_place (word ∷ words) = word.place

-- the fault of words that no tree goes on with: a form that is left out, or none
abbrev pub fault_before : Bool → List PlacedWord → SpecFault
fault_before left_out words = fault_at (if left_out then fault.LeftOut else fault.SyntaxFault) (first_place words)

abbrev pub by_tree : {T : Type 0} → Option T → ℕ → SpecFault → Answer T
by_tree None next told = Err told
by_tree (Some tree) next told = Ok (tree, next)

-- the words of a front
abbrev pub taken_words : Front → List PlacedWord → List PlacedWord
taken_words (TooDeep place) words = []
taken_words (Reaches reach) words = take reach.words words

-- what the words of a text from a lexeme on are, by their front
abbrev pub answered : {T : Type 0} → (List Token → Option T) → List (List ℕ) → List ℕ → List Lexeme → ℕ → List PlacedWord → Front → Answer T
answered tree_of names text found at words (TooDeep place) = Err (fault_at fault.TooDeep place)
answered tree_of names text found at words (Reaches reach) =
    by_tree (tree_of (tokens_from names text (drop at found) (take reach.words words)))
    (at + widths (take reach.words words))
    (fault_before reach.left_out (drop reach.words words))

-- a word of the front that is too deep is the fault; else the front is a tree, or the fault stands behind it
abbrev pub answer : {T : Type 0} → (List Token → Option T) → Kind → List (List ℕ) → List ℕ → List Lexeme → ℕ → Answer T
answer tree_of kind names text found at =
    answered tree_of names text found at (words_from text found at) (front_of kind (words_from text found at))

-- the names behind the identifiers of the front
abbrev pub names_read : Kind → List (List ℕ) → List ℕ → List Lexeme → ℕ → List (List ℕ)
names_read kind names text found at =
    names_behind names text (drop at found) (taken_words (front_of kind (words_from text found at)) (words_from text found at))
