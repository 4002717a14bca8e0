-- What stands between lexemes: blanks and comments.
use Rattle.std.specs.Prelude.{◌≡◌, ℕ, true, List, [], ◌∷◌, ◌++◌, codes}
use Rattle.lexeme_laws.specs.Alphabet.{is_white, is_in_line}
use Rattle.lexeme_laws.specs.Longest.{AreAll, IsLongest}

-- a space, a tab, a line feed or a carriage return
pub record IsBlank (piece : List ℕ) : Type 0 where
  pub character : ℕ
  pub is : piece ≡ character ∷ []
  pub blank : is_white character ≡ true

-- `--` and characters that a line may hold
pub record IsLineComment (piece : List ℕ) : Type 0 where
  pub line : List ℕ
  pub is : piece ≡ codes "--" ++ line
  pub of_line : AreAll is_in_line line

-- `/*`, text without `*/`, and `*/`
pub record IsBlockComment (piece : List ℕ) : Type 0 where
  pub inside : List ℕ
  pub is : piece ≡ codes "/*" ++ (inside ++ codes "*/")
  pub without : (front behind : List ℕ) → inside ≡ front ++ (codes "*/" ++ behind) → ⊥

-- a blank, all of a line comment, or a block comment
pub data IsSpace (piece rest : List ℕ) : Type 0 where
  blank : IsBlank piece → IsSpace piece rest
  line : IsLongest IsLineComment piece rest → IsSpace piece rest
  block : IsBlockComment piece → IsSpace piece rest
