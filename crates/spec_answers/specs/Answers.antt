-- What a text is read as: a statement from a lexeme on, and a specification as a whole.
use Rattle.std.specs.Prelude.{ℕ, Bool, true, false, if◌then◌else◌, List, [], ◌∷◌, take, drop, Option, Some, None, Result, Ok, Err}
use Rattle.vdm_kinds.specs.declared.spec_fault.SpecFault.{SpecFault}
use Rattle.vdm_kinds.specs.declared.spec_kind.SpecKind.TheVariants as fault
use Rattle.abstract_syntax.specs.Statements.{StmtTree}
use Rattle.abstract_syntax.specs.Classes.{SpecTree}
use Rattle.vdm_lexer.specs.declared.lexeme.Lexeme.{Lexeme}
use Rattle.vdm_lexer.specs.Lexemes.{fault_at}
use Rattle.grammar_words.specs.declared.word.PlacedWord.{PlacedWord}
use Rattle.grammar_words.specs.declared.word.Word.{Word}
use Rattle.grammar_words.specs.declared.word.Word.TheVariants as word
use Rattle.grammar_words.specs.Tokens.{Token}
use Rattle.word_reader.specs.Words.{words_from}
use Rattle.token_reader.specs.Read.{names_behind, tokens_from}
use Rattle.grammar_fronts.specs.declared.front.Front.{Front}
use Rattle.grammar_fronts.specs.declared.front.Front.TheVariants.{TooDeep, Reaches}
use Rattle.stmt_fronts.specs.declared.kind.Kind.TheVariants as kind
use Rattle.stmt_fronts.specs.Fronts.{front_of, front_of_words}
use Rattle.stmt_reading.specs.Statements.{stmt_of}
use Rattle.stmt_reading.specs.Classes.{spec_of}
use Rattle.text_answers.specs.Answers.{Answer, answered, fault_before, taken_words}

-- ---- a statement: as types, patterns and expressions are read

abbrev pub stmt_answer : List (List ℕ) → List ℕ → List Lexeme → ℕ → Answer StmtTree
stmt_answer names text found at =
    answered stmt_of names text found at (words_from text found at) (front_of_words (words_from text found at))

-- the names behind the identifiers of the front
abbrev pub stmt_names : List (List ℕ) → List ℕ → List Lexeme → ℕ → List (List ℕ)
stmt_names names text found at =
    names_behind names text (drop at found) (taken_words (front_of_words (words_from text found at)) (words_from text found at))

-- ---- a specification: all of the text

-- the tokens of the text, where the names are given in text order; the last is that of the end
abbrev pub spec_tokens : List (List ℕ) → List ℕ → List Lexeme → List Token
spec_tokens names text found = tokens_from names text (drop 0 found) (words_from text found 0)

-- the names behind all identifiers of the text
abbrev pub spec_names : List (List ℕ) → List ℕ → List Lexeme → List (List ℕ)
spec_names names text found = names_behind names text (drop 0 found) (words_from text found 0)

abbrev pub is_text_end : Word → Bool
is_text_end word.TextEnd = true
is_text_end _ = false

-- only the end is left
abbrev pub is_end : List PlacedWord → Bool
is_end (last ∷ []) = is_text_end last.word
is_end _ = false

abbrev pub by_tree : {T : Type 0} → Option T → SpecFault → Result T SpecFault
by_tree None told = Err told
by_tree (Some tree) told = Ok tree

-- the front is a tree, and the end stands behind it; else the fault stands there
abbrev pub spec_read : List PlacedWord → List Token → Front → Result SpecTree SpecFault
spec_read words tokens (TooDeep place) = Err (fault_at fault.TooDeep place)
spec_read words tokens (Reaches reach) =
    by_tree (if is_end (drop reach.words words) then spec_of (take reach.words tokens) else None)
    (fault_before reach.left_out (drop reach.words words))

-- a token of the front that is too deep is the fault; else the specification that the whole text is, or the fault behind its
-- front
abbrev pub spec_answer : List (List ℕ) → List ℕ → List Lexeme → Result SpecTree SpecFault
spec_answer names text found =
    spec_read (words_from text found 0) (spec_tokens names text found) (front_of kind.Spec (spec_tokens names text found))
