-- The pieces that trees of statements and classes are written with: some may be left out, and some have several forms.
use Rattle.std.specs.Prelude.{◌≡◌, List, [], ◌∷◌, ◌++◌, Contains, map}
use Rattle.vdm_kinds.specs.declared.name.Name.{Name}
use Rattle.vdm_kinds.specs.declared.place.Place.{Place}
use Rattle.grammar_words.specs.declared.word.Word.{Word}
use Rattle.grammar_words.specs.Tokens.{Token, identifier, plain, whole as whole_token}
use Rattle.grammar_words.specs.Written.{Written, at, word, number, at_word}

pub data Piece : Type 0 where
  -- one token
  must : Written → Piece
  -- a name that was written before, at any place
  again : Name → Piece
  -- one of several lists of tokens, of which one may be empty
  one_of : List (List Written) → Piece

-- a word at its place, and at any place
abbrev pub key : Word → Place → Piece
key w place = must (at_word w place)

abbrev pub mark : Word → Piece
mark w = must (word w)

-- a word that may be left out
abbrev pub may : Word → Piece
may w = one_of ([] ∷ (word w ∷ []) ∷ [])

-- all of the tokens of an expression, a pattern or a type
abbrev pub whole : List Written → List Piece
whole ws = map must ws

-- one after the other, grouped to the right
infixr 20 ◌⌢◌
abbrev pub ◌⌢◌ : List Piece → List Piece → List Piece
a ⌢ b = a ++ b

-- the first of the tokens is the one that is written, and these are left
abbrev pub IsFirst : List Token → Written → List Token → Type 0
IsFirst tokens (at kept) rest = tokens ≡ kept ∷ rest
IsFirst tokens (word w) rest = (place : Place) × (tokens ≡ plain w place ∷ rest)
IsFirst tokens (number n) rest = (place : Place) × (tokens ≡ whole_token n place ∷ rest)

-- the tokens begin with those that are written, and these are left
abbrev pub Begin : List Token → List Written → List Token → Type 0
Begin tokens [] rest = tokens ≡ rest
Begin tokens (w ∷ ws) rest = (middle : List Token) × IsFirst tokens w middle × Begin middle ws rest

-- the tokens begin with the pieces, and these are left
abbrev pub Spelled : List Token → List Piece → List Token → Type 0
Spelled tokens [] rest = tokens ≡ rest
Spelled tokens (must w ∷ pieces) rest = (middle : List Token) × IsFirst tokens w middle × Spelled middle pieces rest
Spelled tokens (again name ∷ pieces) rest =
    (middle : List Token) × (place : Place) × (tokens ≡ identifier name place ∷ middle) × Spelled middle pieces rest
Spelled tokens (one_of forms ∷ pieces) rest =
    (form : List Written) × (middle : List Token) × Contains forms form × Begin tokens form middle × Spelled middle pieces rest
