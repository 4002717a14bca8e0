-- The tokens that a tree is written with, by the places that its nodes keep.
use Rattle.std.specs.Prelude.{◌≡◌, ℤ, List, [], ◌∷◌, ◌++◌}
use Rattle.grammar_words.specs.declared.word.Word.{Word}
use Rattle.grammar_words.specs.Tokens.{Token, plain, whole}
use Rattle.vdm_kinds.specs.declared.place.Place.{Place}

-- A token of a tree: one that is kept with its place, or a word or a whole literal at any place.
pub data Written : Type 0 where
  at : Token → Written
  word : Word → Written
  number : ℤ → Written

-- the token is the one that is written
abbrev pub IsToken : Token → Written → Type 0
IsToken token (at kept) = token ≡ kept
IsToken token (word w) = (place : Place) × (token ≡ plain w place)
IsToken token (number n) = (place : Place) × (token ≡ whole n place)

-- the tokens are those that are written, one by one
abbrev pub AreTokens : List Token → List Written → Type 0
AreTokens [] [] = Unit {0}
AreTokens (token ∷ tokens) (w ∷ ws) = IsToken token w × AreTokens tokens ws
AreTokens [] (w ∷ ws) = ⊥
AreTokens (token ∷ tokens) [] = ⊥

-- one after the other, grouped to the right
infixr 20 ◌⌢◌
abbrev pub ◌⌢◌ : List Written → List Written → List Written
a ⌢ b = a ++ b

-- a word at its place
abbrev pub at_word : Word → Place → Written
at_word w place = at (plain w place)
