-- What the definitions read, as the program's calls give it.
use Rattle.std.specs.Prelude.{◌≡◌, ℕ, List, [], ◌∷◌, Option, Some, None, Result, Err, IfOk, MatchOption, Box}
use Rattle.vdm_kinds.specs.declared.halt.Halt.{Halt}
use Rattle.vdm_kinds.specs.declared.halt.Halt.TheVariants.{Of}
use Rattle.grammar_words.specs.declared.word.Word.{Word}
use Rattle.grammar_words.specs.Tokens.{Token, word_of}
use Rattle.abstract_syntax.specs.Expressions.{PatternTree}
use Rattle.expr_tree.specs.declared.pattern.Pattern.{Pattern}
use Rattle.expr_tree.specs.View.{pattern_view}
use Rattle.stmt_reading.specs.Leaves.{Read}
use Rattle.leaf_reader.specs.declared.no_tree.NoTree.{NoTree}

-- what a call gives as it is
abbrev pub same : {A : Type 0} → A → A
same a = a

-- a call finds what is read, with these tokens left, and nothing where nothing is
abbrev pub Finds : {A B : Type 0} → Option A → (A → B) → Read B → List Token → Type 0
Finds result view read rest = MatchOption result (read ≡ None) (λ found. read ≡ Some (view found, rest))

-- a call takes what is read, and nothing changes where nothing is
abbrev pub Takes : {A B : Type 0} → Option A → (A → B) → Read B → List Token → List Token → Type 0
Takes result view read old new = MatchOption result ((read ≡ None) × (new ≡ old)) (λ found. read ≡ Some (view found, new))

-- what a call gives is what is read, with these tokens left, and it refuses the tokens only where nothing is
pub record Reads {A B : Type 0} (result : Result A (Halt NoTree)) (view : A → B) (read : Read B) (rest : List Token) : Type 0 where
  pub given : IfOk result (λ found. read ≡ Some (view found, rest))
  pub refused : result ≡ Err (Of (record {})) → read ≡ None

abbrev pub next_word : List Token → Option Word
next_word [] = None
next_word (token ∷ tokens) = Some (word_of token)

-- behind the bracket that closes, or with so many that are open
abbrev pub within : Option ℕ → (ℕ → List Token) → List Token → List Token
within None next tokens = tokens
within (Some inside) next tokens = next inside

abbrev pub boxed_pattern : {A : Type 0} → Box Pattern A → PatternTree
boxed_pattern pattern = pattern_view pattern.value
